-- Attempts: what an entry is told, whether that answers it or it waits, and what the attempt makes of the machine.
-- The first of the refusals that apply is told: that of the text, that of binding, who is in the way, a conflict, a
-- fault or a violated constraint, and at last that its commit finds no room.
use Rattle.std.specs.Prelude.{ℕ, ◌+◌, ◌==◌, ◌&&◌, not, Bool, true, false, if◌then◌else◌, List, [], ◌∷◌, ◌++◌, length, map, filter, Option, None, Some, Result, Ok, Err, codes}
use Rattle.std.specs.Fmt.{decimal}
use Rattle.std.specs.List.{list_any}
use Rattle.hs_ast.specs.declared.session.Modes.{Modes as NewModes}
use Rattle.hs_claims.specs.declared.claim.Claim.{Claim}
use Rattle.hs_claims.specs.declared.footprint.Footprint.{Footprint}
use Rattle.hs_claims.specs.declared.model.ControlKind.{ControlKind}
use Rattle.hs_claims.specs.Compatible.{fits}
use Rattle.hs_claims.specs.Wants.{wants_of}
use Rattle.hs_plan.specs.declared.change.Change.{Change}
use Rattle.hs_plan.specs.declared.definition.Definition.{Definition}
use Rattle.hs_changes.specs.Changes.{count_all_inserted}
use Rattle.hs_schema.specs.Catalogue.{Text}
use Rattle.hs_sessions.specs.declared.control.Control.{Control}
use Rattle.hs_sessions.specs.declared.control.Control.TheVariants as control
use Rattle.hs_sessions.specs.declared.control.ControlReply.{ControlReply}
use Rattle.hs_sessions.specs.declared.control.ControlReply.TheVariants as reply
use Rattle.hs_sessions.specs.declared.session.Session.{Session}
use Rattle.hs_sessions.specs.Modes.{joined}
use Rattle.hs_sessions.specs.Settings.{controlled}
use Rattle.hs_turns.specs.Database.{Database, view, has_room}
use Rattle.hs_turns.specs.Transactions.{Statement, Reply}
use Rattle.hs_turns.specs.Transactions.Reply.{Told, Controlled}
use Rattle.hs_turns.specs.Transactions.Statement.{Data, OnSession}
use Rattle.hs_turns.specs.Histories.{Open, Commit, base, commit_of, held, is_free, newer, no_conflict, now, others, own}
use Rattle.hs_turns.specs.Events.{Event, definition_commit, fresh, said}
use Rattle.hs_turns.specs.Events.{Act as act}
use Rattle.hs_turns.specs.Dialect.{Dialect, Request, language_of, open_transaction, refused_words}
use Rattle.hs_turns.specs.Dialect.{Request as request}
use Rattle.hs_turns.specs.Lines.{Words, Replies, First, WaitsFor, told}
use Rattle.hs_turns.specs.Waiting.{Entry, first_leading, ascending, waits_for}
use Rattle.hs_turns.specs.Machine.{Machine, settings_of, with_settings, with_modes_used, name_of, open_of, is_open, session_seen, settings_in, event, happens, ends}

-- what an entry is told; whether it is answered, else it waits; and the machine behind it
pub record Attempt : Type 0 where
  pub words : List Words
  pub final : Bool
  pub next : Machine

abbrev pub answers : List Words → Machine → Attempt
answers words m = record { words = words; final = true; next = m }

-- what was told before stays told
abbrev pub refuses : List Words → Text → Machine → Attempt
refuses before why m = answers (before ++ Replies (refused_words why) None ∷ []) m

-- ---- who is in the way

-- the open transaction of a session holds what doesn't go together with what is wanted
abbrev pub blocks : ControlKind → List Claim → ℕ → Open → Bool
blocks kind wanted s u = (u.session == s) && not (fits wanted (held kind u.level u.read_only u.trace.feet))

-- the other sessions that are in the way, in order
abbrev pub blockers : Machine → ℕ → List Claim → List ℕ
blockers m s wanted = filter (λ b. list_any (blocks m.history.kind wanted b) (others s m.history.open_)) (ascending 1 (length m.names))

-- every session with an open transaction, in order
abbrev pub open_sessions : Machine → List ℕ
open_sessions m = filter (is_open m) (ascending 1 (length m.names))

-- the first of them whose waits lead back
abbrev pub leading_back : Machine → ℕ → List ℕ → Option ℕ
leading_back m s blockers = first_leading (length m.names) m.waits s blockers

-- how many of these commits go together with what is wanted, from the first on
abbrev pub clear_commits : ControlKind → List Claim → List Commit → ℕ
clear_commits kind wanted [] = 0
clear_commits kind wanted (k ∷ ks) = if fits wanted (held kind k.level k.read_only k.feet) then clear_commits kind wanted ks + 1 else 0

abbrev pub deadlock_words : Machine → ℕ → Text
deadlock_words m back = codes "deadlock with " ++ name_of m back

abbrev pub waits_on : List ℕ → List Words → Entry → Machine → Attempt
waits_on blockers before entry m = record {
  words = before ++ WaitsFor (map (name_of m) blockers) ∷ [];
  final = false;
  next = record m { waits = waits_for entry.session blockers m.waits };
}

-- ---- whether a commit finds room

-- there is nothing to commit; there is room; the database would have had too many changes; or the log would be too
-- long
pub data Ending : Type 0 where
  Empty : Ending
  Fits : Ending
  TooManyChanges : Ending
  LogFull : Ending

abbrev pub ending_by : List Change → Bool → Bool → Ending
ending_by [] room log = Empty
ending_by (c ∷ cs) true true = Fits
ending_by (c ∷ cs) true false = LogFull
ending_by (c ∷ cs) false log = TooManyChanges

-- it is done, and made this commit
abbrev pub done : Option ℕ → Machine → Attempt
done commit m = answers (Replies (codes "ok") commit ∷ []) m

-- ---- savepoints

abbrev pub is_savepoint : Control → Bool
is_savepoint (control.Savepoint name) = true
is_savepoint (control.Autocommit on) = false
is_savepoint (control.Characteristics new) = false
is_savepoint (control.Transaction new) = false
is_savepoint (control.RollbackTo name) = false
is_savepoint (control.Release name) = false
is_savepoint control.WriteDelayFalse = false

abbrev pub savepoint_of : Control → Text
savepoint_of (control.RollbackTo name) = name
savepoint_of (control.Release name) = name
savepoint_of (control.Savepoint name) = name
savepoint_of (control.Autocommit on) = []
savepoint_of (control.Characteristics new) = []
savepoint_of (control.Transaction new) = []
savepoint_of control.WriteDelayFalse = []

module _ (d : Dialect) (opening : Database) (made : ℕ) where
  abbrev pub present : Machine → Database
  present m = now opening m.history.commits

  abbrev pub ending_of : Machine → Commit → Ending
  ending_of m commit = ending_by commit.changes (has_room (present m) commit.changes) (d.has_log_room m.history.commits commit)

  -- the number of the next commit, where the opening database has so many
  abbrev pub next_number : Machine → ℕ
  next_number m = made + length m.history.commits + 1

  -- ---- what a transaction tells

  abbrev pub control_words : ControlReply → Control → List Words
  control_words reply.Ok control = Replies (codes "ok") None ∷ []
  control_words reply.OpenTransaction control = Replies (refused_words open_transaction) None ∷ []
  control_words reply.NoSavepoint control = Replies (refused_words (codes "no savepoint " ++ d.printed_name (savepoint_of control))) None ∷ []

  -- the newest of its replies, which is to the newest of its statements
  abbrev pub newest_by : List Statement → List Reply → Option ℕ → List Words
  newest_by (Data text ∷ statements) (Told rows reply ∷ replies) commit = told rows reply commit
  newest_by (OnSession control ∷ statements) (Controlled r ∷ replies) commit = control_words r control
  newest_by _ _ commit = []

  abbrev pub newest : Open → Option ℕ → List Words
  newest o commit = newest_by o.statements o.trace.replies commit

  -- ---- the transaction of a session

  -- the open one, or the one that this event begins
  abbrev pub own_of : Machine → Event → Open
  own_of m e = own e.session (fresh m.history.kind e (length m.history.commits)) m.history.open_

  -- what its statements read
  abbrev pub seen_by : Machine → Open → Database
  seen_by m o = view (base m.history.kind opening m.history.commits o) o.trace.changes

  -- an event of a session, which uses up what was named for its next transaction where it begins one
  abbrev pub takes : Event → Machine → Machine
  takes e m = if is_open m e.session then happens d opening e m else with_modes_used e.session (happens d opening e m)

  -- a transaction ends without a commit
  abbrev pub left_own : ℕ → Machine → Machine
  left_own s m = ends s (happens d opening (event m s false false act.Leaves) m)

  -- A refused entry is one of the statements of the transaction that is open. One that the entry itself began, in
  -- autocommit, ends.
  abbrev pub noted_by : Option Open → Entry → Machine → Machine
  noted_by None entry m = m
  noted_by (Some o) entry m = if o.auto then left_own entry.session m else happens d opening (event m entry.session false false (act.Says (Data entry.text))) m

  abbrev pub noted : Entry → Machine → Machine
  noted entry m = noted_by (open_of m entry.session) entry m

  -- it is told as that statement's reply
  abbrev pub refusal_told : Option Open → Entry → Text → Machine → List Words
  refusal_told None entry why m = Replies (refused_words why) None ∷ []
  refusal_told (Some o) entry why m =
      if o.auto then Replies (refused_words why) None ∷ [] else newest (said (language_of d) (base m.history.kind opening m.history.commits o) (Data entry.text) o) None

  abbrev pub refused_in_place : Entry → Text → Machine → Attempt
  refused_in_place entry why m = answers (refusal_told (open_of m entry.session) entry why m) (noted entry m)

  -- ---- queries, changes of rows, and LOCK TABLE

  abbrev pub data_event : Machine → Entry → Bool → Event
  data_event m entry back = event m entry.session (settings_of m entry.session).autocommit back (act.Says (Data entry.text))

  -- the end of a transaction that the statement began in autocommit
  abbrev pub auto_ended : Ending → Entry → Open → Machine → Attempt
  auto_ended Empty entry after m = answers (newest after None) (ends entry.session (takes (data_event m entry false) m))
  auto_ended Fits entry after m = answers (newest after (Some (next_number m))) (ends entry.session (takes (data_event m entry false) m))
  auto_ended TooManyChanges entry after m = refuses [] (codes "changes") (ends entry.session (takes (data_event m entry false) m))
  auto_ended LogFull entry after m = refuses [] (codes "log full") (ends entry.session (takes (record (data_event m entry false) { act = act.Leaves }) m))

  -- the statement is told as its transaction has it behind it
  abbrev pub went_on : Bool → Entry → Open → Machine → Attempt
  went_on true entry after m = auto_ended (ending_of m (commit_of after)) entry after m
  went_on false entry after m = answers (newest after None) (takes (data_event m entry false) m)

  abbrev pub conflict_words : Machine → Open → List Claim → Text
  conflict_words m o wanted = codes "conflict with " ++ decimal (made + o.start + clear_commits m.history.kind wanted (newer m.history.commits o) + 1)

  abbrev pub held_up_data : Option ℕ → List ℕ → Entry → Machine → Attempt
  held_up_data (Some back) blockers entry m = refuses [] (deadlock_words m back) (ends entry.session (takes (data_event m entry true) m))
  held_up_data None blockers entry m = waits_on blockers [] entry (takes (data_event m entry false) m)

  -- by whether nobody is in the way, and no commit since a snapshot conflicts
  abbrev pub judged_data : Bool → Bool → Entry → Open → List Claim → Machine → Attempt
  judged_data true true entry o wanted m = went_on o.auto entry (said (language_of d) (base m.history.kind opening m.history.commits o) (Data entry.text) o) m
  judged_data true false entry o wanted m = refuses [] (conflict_words m o wanted) (ends entry.session (takes (data_event m entry false) m))
  judged_data false clear entry o wanted m = let b = blockers m entry.session wanted in held_up_data (leading_back m entry.session b) b entry m

  abbrev pub bound_data : Entry → Open → Footprint → Machine → Attempt
  bound_data entry o foot m =
      judged_data (is_free m.history.kind o foot (others entry.session m.history.open_)) (no_conflict m.history.kind o foot (newer m.history.commits o)) entry o (wants_of m.history.kind o.level o.read_only foot) m

  abbrev pub data_by : Option Text → Entry → Open → Machine → Attempt
  data_by (Some why) entry o m = refused_in_place entry why m
  data_by None entry o m = bound_data entry o ((language_of d).outcome o.read_only (count_all_inserted o.trace.changes) (seen_by m o) entry.text).foot m

  abbrev pub attempt_data : Entry → Machine → Attempt
  attempt_data entry m = let o = own_of m (data_event m entry false) in data_by (d.refusal o.read_only (seen_by m o) entry.text) entry o m

  -- ---- definitions

  -- the commit of a definition, which has one change
  abbrev pub defined_by : Ending → List Words → Entry → Machine → Attempt
  defined_by Empty before entry m = answers (before ++ Replies (codes "ok") None ∷ []) m
  defined_by Fits before entry m = answers (before ++ Replies (codes "ok") (Some (next_number m)) ∷ []) (happens d opening (event m entry.session false false (act.Defines entry.text)) m)
  defined_by TooManyChanges before entry m = refuses before (codes "changes") m
  defined_by LogFull before entry m = refuses before (codes "log full") m

  abbrev pub defined : Result Definition Text → List Words → Entry → Machine → Attempt
  defined (Err why) before entry m = refuses before why m
  defined (Ok definition) before entry m = defined_by (ending_of m (definition_commit entry.session definition)) before entry m

  abbrev pub held_up : Option ℕ → List ℕ → List Words → Entry → Machine → Attempt
  held_up (Some back) blockers before entry m = refuses before (deadlock_words m back) m
  held_up None blockers before entry m = waits_on blockers before entry m

  -- it waits for every open transaction, as each holds the catalogue, and is bound again over the present one
  abbrev pub defining : List Open → List Words → Entry → Machine → Attempt
  defining [] before entry m = defined (d.definition (present m) entry.text) before entry m
  defining (o ∷ os) before entry m = let b = open_sessions m in held_up (leading_back m entry.session b) b before entry m

  abbrev pub commits_event : Machine → ℕ → Event
  commits_event m s = event m s false false act.Commits

  abbrev pub committed_own : Machine → ℕ → Machine
  committed_own m s = ends s (happens d opening (commits_event m s) m)

  -- first its session's own transaction is committed
  abbrev pub own_by : Ending → Entry → Machine → Attempt
  own_by Empty entry m = let after = committed_own m entry.session in defining after.history.open_ [] entry after
  own_by Fits entry m = let after = committed_own m entry.session in defining after.history.open_ (First (next_number m) ∷ []) entry after
  own_by TooManyChanges entry m = refuses [] (codes "changes") m
  own_by LogFull entry m = refuses [] (codes "log full") m

  abbrev pub own_first : Option Open → Entry → Machine → Attempt
  own_first None entry m = defining m.history.open_ [] entry m
  own_first (Some o) entry m = own_by (ending_of m (commit_of o)) entry m

  -- at its first attempt; one that waits has done so
  abbrev pub bound_definition : Bool → Entry → Machine → Attempt
  bound_definition true entry m = own_first (open_of m entry.session) entry m
  bound_definition false entry m = defining m.history.open_ [] entry m

  abbrev pub definition_by : Bool → Option Text → Entry → Machine → Attempt
  definition_by is_first (Some why) entry m = refused_in_place entry why m
  definition_by is_first None entry m = bound_definition is_first entry m

  abbrev pub attempt_definition : Bool → Entry → Machine → Attempt
  attempt_definition is_first entry m = let o = own_of m (commits_event m entry.session) in definition_by is_first (d.refusal o.read_only (seen_by m o) entry.text) entry m

  -- ---- START TRANSACTION, COMMIT and ROLLBACK

  abbrev pub begins_event : Machine → ℕ → Event
  begins_event m s = event m s false false act.Begins

  -- its modes are named for the transaction that it begins
  abbrev pub named : NewModes → ℕ → Machine → Machine
  named modes s m = with_settings s (record (settings_of m s) { next = joined modes (settings_of m s).next }) m

  abbrev pub attempt_start : Bool → NewModes → Entry → Machine → Attempt
  attempt_start true modes entry m = refused_in_place entry open_transaction m
  attempt_start false modes entry m = let with_named = named modes entry.session m in done None (takes (begins_event with_named entry.session) with_named)

  abbrev pub commit_by : Ending → ℕ → Machine → Attempt
  commit_by Empty s m = done None (committed_own m s)
  commit_by Fits s m = done (Some (next_number m)) (committed_own m s)
  commit_by TooManyChanges s m = refuses [] (codes "changes") m
  commit_by LogFull s m = refuses [] (codes "log full") m

  abbrev pub attempt_commit : Option Open → ℕ → Machine → Attempt
  attempt_commit None s m = done None m
  attempt_commit (Some o) s m = commit_by (ending_of m (commit_of o)) s m

  abbrev pub attempt_rollback : Bool → ℕ → Machine → Attempt
  attempt_rollback false s m = done None m
  attempt_rollback true s m = done None (left_own s m)

  -- ---- settings and savepoints

  -- SAVEPOINT begins a transaction, where none is open and autocommit is off
  abbrev pub ready : Control → ℕ → Machine → Machine
  ready control s m = if is_savepoint control && not (settings_of m s).autocommit && not (is_open m s) then takes (begins_event m s) m else m

  -- it is one of the statements of the transaction that is open
  abbrev pub noted_control : Control → ℕ → Machine → Machine
  noted_control control s m = if is_open m s then happens d opening (event m s false false (act.Says (OnSession control))) m else m

  abbrev pub control_told : Option Open → ControlReply → Control → Machine → List Words
  control_told None r control m = control_words r control
  control_told (Some o) r control m = newest (said (language_of d) (base m.history.kind opening m.history.commits o) (OnSession control) o) None

  abbrev pub set_by : ControlReply × Session → Control → ℕ → Machine → Attempt
  set_by done control s m = answers (control_told (open_of m s) done.0 control m) (with_settings s (settings_in done.1) (noted_control control s m))

  abbrev pub in_transaction : Control → ℕ → Machine → Attempt
  in_transaction control s m = set_by (controlled control (session_seen (settings_of m s) (open_of m s))) control s m

  abbrev pub attempt_control : Control → ℕ → Machine → Attempt
  attempt_control control s m = in_transaction control s (ready control s m)

  -- ---- the whole

  abbrev pub attempt_by : Request → Bool → Entry → Machine → Attempt
  attempt_by (request.Faulty why) is_first entry m = refused_in_place entry why m
  attempt_by request.OfData is_first entry m = attempt_data entry m
  attempt_by request.OfDefinition is_first entry m = attempt_definition is_first entry m
  attempt_by (request.Starts modes) is_first entry m = attempt_start (is_open m entry.session) modes entry m
  attempt_by request.Commits is_first entry m = attempt_commit (open_of m entry.session) entry.session m
  attempt_by request.RollsBack is_first entry m = attempt_rollback (is_open m entry.session) entry.session m
  attempt_by (request.OnSettings control) is_first entry m = attempt_control control entry.session m

  -- an attempt of an entry, the first or a later one
  abbrev pub attempt : Bool → Entry → Machine → Attempt
  attempt is_first entry m = attempt_by (d.request entry.text) is_first entry m
