-- What an attempt leaves as it is, and that its history is one that events lead to.
use Rattle.std.proofs.Common.{◌≡◌, ℕ, Bool, true, false, List, [], ◌∷◌, refl, ap, ◌∙◌}
use Rattle.std.specs.Prelude.{Option, None, Some, Result, Ok, Err, if◌then◌else◌, ◌&&◌, not}
use Rattle.hs_ast.specs.declared.session.Modes.{Modes as NewModes}
use Rattle.hs_claims.specs.declared.claim.Claim.{Claim}
use Rattle.hs_claims.specs.Wants.{wants_of}
use Rattle.hs_plan.specs.declared.definition.Definition.{Definition}
use Rattle.hs_changes.specs.Changes.{count_all_inserted}
use Rattle.hs_schema.specs.Catalogue.{Text}
use Rattle.hs_sessions.specs.declared.control.Control.{Control}
use Rattle.hs_sessions.specs.Modes.{joined, no_modes}
use Rattle.hs_sessions.specs.Settings.{controlled}
use Rattle.hs_turns.specs.Database.{Database}
use Rattle.hs_turns.specs.Transactions.Statement.{Data, OnSession}
use Rattle.hs_turns.specs.Histories.{Open, base, commit_of, is_free, newer, no_conflict, others}
use Rattle.hs_turns.specs.Events.{Event, definition_commit, said, step, reached}
use Rattle.hs_turns.specs.Events.{Act as act}
use Rattle.hs_turns.specs.Dialect.{Dialect, Request, language_of}
use Rattle.hs_turns.specs.Dialect.{Request as request}
use Rattle.hs_turns.specs.Lines.{Words, First}
use Rattle.hs_turns.specs.Waiting.{Entry, waits_for}
use Rattle.hs_turns.specs.Machine.{Machine, Settings, settings_of, with_settings, with_modes_used, open_of, is_open, session_seen, settings_in, event, happens, ends}
use Rattle.hs_turns.specs.Attempts.{Attempt, Ending, Empty, Fits, TooManyChanges, LogFull, blockers, open_sessions, leading_back, ending_of, own_of, seen_by, takes, noted, noted_by, data_event, auto_ended, went_on, held_up_data, judged_data, data_by, defined_by, defined, held_up, defining, commits_event, committed_own, own_by, own_first, bound_definition, definition_by, begins_event, named, attempt_start, commit_by, attempt_commit, left_own, attempt_rollback, is_savepoint, ready, noted_control, in_transaction, attempt_by, attempt, present, next_number}
use Rattle.hs_turns.specs.Laws.{IsHistory, commits_in}

-- the history goes on by events, and sessions, waiters, queue and input stay
pub record Follows (d : Dialect) (opening : Database) (m n : Machine) : Type 0 where
  pub history : IsHistory d opening m.history → IsHistory d opening n.history
  pub names : n.names ≡ m.names
  pub seen : n.seen ≡ m.seen
  pub pass : n.pass ≡ m.pass
  pub queue : n.queue ≡ m.queue
  pub unread : n.unread ≡ m.unread
  pub closed : n.closed ≡ m.closed

module _ (d : Dialect) (opening : Database) (made : ℕ) where
  abbrev F : Machine → Machine → Type 0
  F = Follows d opening

  pub stays : (m : Machine) → F m m
  stays m = record { history = λ r. r; names = refl; seen = refl; pass = refl; queue = refl; unread = refl; closed = refl }

  through : (m n k : Machine) → F m n → F n k → F m k
  through m n k f g = record {
    history = λ r. g.history (f.history r);
    names = g.names ∙ f.names;
    seen = g.seen ∙ f.seen;
    pass = g.pass ∙ f.pass;
    queue = g.queue ∙ f.queue;
    unread = g.unread ∙ f.unread;
    closed = g.closed ∙ f.closed;
  }

  goes : (e : Event) (m : Machine) → F m (happens d opening e m)
  unfolding reached
  goes e m = record { history = λ r. (e ∷ r.0, ap (step (language_of d) opening e) r.1); names = refl; seen = refl; pass = refl; queue = refl; unread = refl; closed = refl }

  sets : (s : ℕ) (set : Settings) (m n : Machine) → F m n → F m (with_settings s set n)
  sets s set m n f = record { history = f.history; names = f.names; seen = f.seen; pass = f.pass; queue = f.queue; unread = f.unread; closed = f.closed }

  ended : (s : ℕ) (m n : Machine) → F m n → F m (ends s n)
  ended s m n f = record { history = f.history; names = f.names; seen = f.seen; pass = f.pass; queue = f.queue; unread = f.unread; closed = f.closed }

  waiting : (w : ℕ → ℕ → Bool) (m n : Machine) → F m n → F m (record n { waits = w })
  waiting w m n f = record { history = f.history; names = f.names; seen = f.seen; pass = f.pass; queue = f.queue; unread = f.unread; closed = f.closed }

  either : (b : Bool) (m x y : Machine) → F m x → F m y → F m (if b then x else y)
  either true m x y f g = f
  either false m x y f g = g

  taken : (e : Event) (m : Machine) → F m (takes d opening made e m)
  taken e m = either (is_open m e.session) m (happens d opening e m) (with_modes_used e.session (happens d opening e m)) (goes e m) (sets e.session (record (settings_of (happens d opening e m) e.session) { next = no_modes }) m (happens d opening e m) (goes e m))

  pub leaves : (s : ℕ) (m : Machine) → F m (left_own d opening made s m)
  leaves s m = ended s m (happens d opening (event m s false false act.Leaves) m) (goes (event m s false false act.Leaves) m)

  noting_by : (found : Option Open) (entry : Entry) (m : Machine) → F m (noted_by d opening made found entry m)
  noting_by None entry m = stays m
  noting_by (Some o) entry m = either o.auto m (left_own d opening made entry.session m) (happens d opening (event m entry.session false false (act.Says (Data entry.text))) m) (leaves entry.session m) (goes (event m entry.session false false (act.Says (Data entry.text))) m)

  noting : (entry : Entry) (m : Machine) → F m (noted d opening made entry m)
  noting entry m = noting_by (open_of m entry.session) entry m

  -- ---- data statements

  auto_ends : (how : Ending) (entry : Entry) (after : Open) (m : Machine) → F m (auto_ended d opening made how entry after m).next
  auto_ends Empty entry after m = ended entry.session m (takes d opening made (data_event d opening made m entry false) m) (taken (data_event d opening made m entry false) m)
  auto_ends Fits entry after m = ended entry.session m (takes d opening made (data_event d opening made m entry false) m) (taken (data_event d opening made m entry false) m)
  auto_ends TooManyChanges entry after m = ended entry.session m (takes d opening made (data_event d opening made m entry false) m) (taken (data_event d opening made m entry false) m)
  auto_ends LogFull entry after m = let e : Event = record (data_event d opening made m entry false) { act = act.Leaves } in ended entry.session m (takes d opening made e m) (taken e m)

  goes_on : (auto : Bool) (entry : Entry) (after : Open) (m : Machine) → F m (went_on d opening made auto entry after m).next
  goes_on true entry after m = auto_ends (ending_of d opening made m (commit_of after)) entry after m
  goes_on false entry after m = taken (data_event d opening made m entry false) m

  holds_up : (back : Option ℕ) (b : List ℕ) (entry : Entry) (m : Machine) → F m (held_up_data d opening made back b entry m).next
  holds_up (Some back) b entry m = ended entry.session m (takes d opening made (data_event d opening made m entry true) m) (taken (data_event d opening made m entry true) m)
  holds_up None b entry m = let n = takes d opening made (data_event d opening made m entry false) m in waiting (waits_for entry.session b n.waits) m n (taken (data_event d opening made m entry false) m)

  judges : (free clear : Bool) (entry : Entry) (o : Open) (wanted : List Claim) (m : Machine) → F m (judged_data d opening made free clear entry o wanted m).next
  judges true true entry o wanted m = goes_on o.auto entry (said (language_of d) (base m.history.kind opening m.history.commits o) (Data entry.text) o) m
  judges true false entry o wanted m = ended entry.session m (takes d opening made (data_event d opening made m entry false) m) (taken (data_event d opening made m entry false) m)
  judges false clear entry o wanted m = let b = blockers m entry.session wanted in holds_up (leading_back m entry.session b) b entry m

  of_data : (why : Option Text) (entry : Entry) (o : Open) (m : Machine) → F m (data_by d opening made why entry o m).next
  of_data (Some why) entry o m = noting entry m
  of_data None entry o m =
      let out = (language_of d).outcome o.read_only (count_all_inserted o.trace.changes) (seen_by d opening made m o) entry.text in
      judges (is_free m.history.kind o out.foot (others entry.session m.history.open_)) (no_conflict m.history.kind o out.foot (newer m.history.commits o)) entry o (wants_of m.history.kind o.level o.read_only out.foot) m

  -- ---- definitions

  defines : (how : Ending) (before : List Words) (entry : Entry) (m : Machine) → F m (defined_by d opening made how before entry m).next
  defines Empty before entry m = stays m
  defines Fits before entry m = goes (event m entry.session false false (act.Defines entry.text)) m
  defines TooManyChanges before entry m = stays m
  defines LogFull before entry m = stays m

  of_defined : (found : Result Definition Text) (before : List Words) (entry : Entry) (m : Machine) → F m (defined d opening made found before entry m).next
  of_defined (Err why) before entry m = stays m
  of_defined (Ok definition) before entry m = defines (ending_of d opening made m (definition_commit entry.session definition)) before entry m

  blocked : (back : Option ℕ) (b : List ℕ) (before : List Words) (entry : Entry) (m : Machine) → F m (held_up d opening made back b before entry m).next
  blocked (Some back) b before entry m = stays m
  blocked None b before entry m = waiting (waits_for entry.session b m.waits) m m (stays m)

  waits_or_defines : (os : List Open) (before : List Words) (entry : Entry) (m : Machine) → F m (defining d opening made os before entry m).next
  waits_or_defines [] before entry m = of_defined (d.definition (present d opening made m) entry.text) before entry m
  waits_or_defines (o ∷ os) before entry m = let b = open_sessions m in blocked (leading_back m entry.session b) b before entry m

  own_commits : (m : Machine) (s : ℕ) → F m (committed_own d opening made m s)
  own_commits m s = ended s m (happens d opening (commits_event d opening made m s) m) (goes (commits_event d opening made m s) m)

  after_own : (before : List Words) (entry : Entry) (m : Machine) → F m (defining d opening made (committed_own d opening made m entry.session).history.open_ before entry (committed_own d opening made m entry.session)).next
  after_own before entry m =
      let next = committed_own d opening made m entry.session in
      through m next (defining d opening made next.history.open_ before entry next).next (own_commits m entry.session) (waits_or_defines next.history.open_ before entry next)

  owns : (how : Ending) (entry : Entry) (m : Machine) → F m (own_by d opening made how entry m).next
  owns Empty entry m = after_own [] entry m
  owns Fits entry m = after_own (First (next_number d opening made m) ∷ []) entry m
  owns TooManyChanges entry m = stays m
  owns LogFull entry m = stays m

  first_own : (found : Option Open) (entry : Entry) (m : Machine) → F m (own_first d opening made found entry m).next
  first_own None entry m = waits_or_defines m.history.open_ [] entry m
  first_own (Some o) entry m = owns (ending_of d opening made m (commit_of o)) entry m

  bound : (is_first : Bool) (entry : Entry) (m : Machine) → F m (bound_definition d opening made is_first entry m).next
  bound true entry m = first_own (open_of m entry.session) entry m
  bound false entry m = waits_or_defines m.history.open_ [] entry m

  of_definition : (is_first : Bool) (why : Option Text) (entry : Entry) (m : Machine) → F m (definition_by d opening made is_first why entry m).next
  of_definition is_first (Some why) entry m = noting entry m
  of_definition is_first None entry m = bound is_first entry m

  -- ---- the others

  starts : (open_ : Bool) (modes : NewModes) (entry : Entry) (m : Machine) → F m (attempt_start d opening made open_ modes entry m).next
  starts true modes entry m = noting entry m
  starts false modes entry m = let n = named d opening made modes entry.session m in let e = begins_event d opening made n entry.session in through m n (takes d opening made e n) (sets entry.session (record (settings_of m entry.session) { next = joined modes (settings_of m entry.session).next }) m m (stays m)) (taken e n)

  commits_by : (how : Ending) (s : ℕ) (m : Machine) → F m (commit_by d opening made how s m).next
  commits_by Empty s m = own_commits m s
  commits_by Fits s m = own_commits m s
  commits_by TooManyChanges s m = stays m
  commits_by LogFull s m = stays m

  commits : (found : Option Open) (s : ℕ) (m : Machine) → F m (attempt_commit d opening made found s m).next
  commits None s m = stays m
  commits (Some o) s m = commits_by (ending_of d opening made m (commit_of o)) s m

  rolls_back : (open_ : Bool) (s : ℕ) (m : Machine) → F m (attempt_rollback d opening made open_ s m).next
  rolls_back false s m = stays m
  rolls_back true s m = leaves s m

  readies : (control : Control) (s : ℕ) (m : Machine) → F m (ready d opening made control s m)
  readies control s m = either (is_savepoint control && not (settings_of m s).autocommit && not (is_open m s)) m (takes d opening made (begins_event d opening made m s) m) m (taken (begins_event d opening made m s) m) (stays m)

  controls : (control : Control) (s : ℕ) (m : Machine) → F m (in_transaction d opening made control s m).next
  controls control s m =
      let e = event m s false false (act.Says (OnSession control)) in
      sets s (settings_in (controlled control (session_seen (settings_of m s) (open_of m s))).1) m (noted_control d opening made control s m) (either (is_open m s) m (happens d opening e m) m (goes e m) (stays m))

  by_request : (r : Request) (is_first : Bool) (entry : Entry) (m : Machine) → F m (attempt_by d opening made r is_first entry m).next
  by_request (request.Faulty why) is_first entry m = noting entry m
  by_request request.OfData is_first entry m = let o = own_of d opening made m (data_event d opening made m entry false) in of_data (d.refusal o.read_only (seen_by d opening made m o) entry.text) entry o m
  by_request request.OfDefinition is_first entry m = let o = own_of d opening made m (commits_event d opening made m entry.session) in of_definition is_first (d.refusal o.read_only (seen_by d opening made m o) entry.text) entry m
  by_request (request.Starts modes) is_first entry m = starts (is_open m entry.session) modes entry m
  by_request request.Commits is_first entry m = commits (open_of m entry.session) entry.session m
  by_request request.RollsBack is_first entry m = rolls_back (is_open m entry.session) entry.session m
  by_request (request.OnSettings control) is_first entry m = let n = ready d opening made control entry.session m in through m n (in_transaction d opening made control entry.session n).next (readies control entry.session m) (controls control entry.session n)

  pub attempts : (is_first : Bool) (entry : Entry) (m : Machine) → F m (attempt d opening made is_first entry m).next
  attempts is_first entry m = by_request (d.request entry.text) is_first entry m

  -- ---- a waiter that still waits has ended nothing, and is told of no commit

  abbrev pub Quiet : Machine → Attempt → Type 0
  Quiet m a = (a.next.again ≡ m.again) × (commits_in a.words ≡ [])

  taken_quiet : (b : Bool) (e : Event) (m : Machine) → (if b then happens d opening e m else with_modes_used e.session (happens d opening e m)).again ≡ m.again
  taken_quiet true e m = refl
  taken_quiet false e m = refl

  auto_quiet : (how : Ending) (entry : Entry) (after : Open) (m : Machine) → (auto_ended d opening made how entry after m).final ≡ false → Quiet m (auto_ended d opening made how entry after m)
  auto_quiet Empty entry after m e = absurd cc
  auto_quiet Fits entry after m e = absurd cc
  auto_quiet TooManyChanges entry after m e = absurd cc
  auto_quiet LogFull entry after m e = absurd cc

  went_quiet : (auto : Bool) (entry : Entry) (after : Open) (m : Machine) → (went_on d opening made auto entry after m).final ≡ false → Quiet m (went_on d opening made auto entry after m)
  went_quiet true entry after m e = auto_quiet (ending_of d opening made m (commit_of after)) entry after m e
  went_quiet false entry after m e = absurd cc

  held_quiet : (back : Option ℕ) (b : List ℕ) (entry : Entry) (m : Machine) → (held_up_data d opening made back b entry m).final ≡ false → Quiet m (held_up_data d opening made back b entry m)
  held_quiet (Some back) b entry m e = absurd cc
  held_quiet None b entry m e = (taken_quiet (is_open m entry.session) (data_event d opening made m entry false) m, refl)

  judged_quiet : (free clear : Bool) (entry : Entry) (o : Open) (wanted : List Claim) (m : Machine) → (judged_data d opening made free clear entry o wanted m).final ≡ false → Quiet m (judged_data d opening made free clear entry o wanted m)
  judged_quiet true true entry o wanted m e = went_quiet o.auto entry (said (language_of d) (base m.history.kind opening m.history.commits o) (Data entry.text) o) m e
  judged_quiet true false entry o wanted m e = absurd cc
  judged_quiet false clear entry o wanted m e = let b = blockers m entry.session wanted in held_quiet (leading_back m entry.session b) b entry m e

  data_quiet : (why : Option Text) (entry : Entry) (o : Open) (m : Machine) → (data_by d opening made why entry o m).final ≡ false → Quiet m (data_by d opening made why entry o m)
  data_quiet (Some why) entry o m e = absurd cc
  data_quiet None entry o m e =
      let out = (language_of d).outcome o.read_only (count_all_inserted o.trace.changes) (seen_by d opening made m o) entry.text in
      judged_quiet (is_free m.history.kind o out.foot (others entry.session m.history.open_)) (no_conflict m.history.kind o out.foot (newer m.history.commits o)) entry o (wants_of m.history.kind o.level o.read_only out.foot) m e

  defined_quiet : (how : Ending) (before : List Words) (entry : Entry) (m : Machine) → (defined_by d opening made how before entry m).final ≡ false → Quiet m (defined_by d opening made how before entry m)
  defined_quiet Empty before entry m e = absurd cc
  defined_quiet Fits before entry m e = absurd cc
  defined_quiet TooManyChanges before entry m e = absurd cc
  defined_quiet LogFull before entry m e = absurd cc

  found_quiet : (found : Result Definition Text) (before : List Words) (entry : Entry) (m : Machine) → (defined d opening made found before entry m).final ≡ false → Quiet m (defined d opening made found before entry m)
  found_quiet (Err why) before entry m e = absurd cc
  found_quiet (Ok definition) before entry m e = defined_quiet (ending_of d opening made m (definition_commit entry.session definition)) before entry m e

  blocked_quiet : (back : Option ℕ) (b : List ℕ) (entry : Entry) (m : Machine) → (held_up d opening made back b [] entry m).final ≡ false → Quiet m (held_up d opening made back b [] entry m)
  blocked_quiet (Some back) b entry m e = absurd cc
  blocked_quiet None b entry m e = (refl, refl)

  defining_quiet : (os : List Open) (entry : Entry) (m : Machine) → (defining d opening made os [] entry m).final ≡ false → Quiet m (defining d opening made os [] entry m)
  defining_quiet [] entry m e = found_quiet (d.definition (present d opening made m) entry.text) [] entry m e
  defining_quiet (o ∷ os) entry m e = let b = open_sessions m in blocked_quiet (leading_back m entry.session b) b entry m e

  definition_quiet : (why : Option Text) (entry : Entry) (m : Machine) → (definition_by d opening made false why entry m).final ≡ false → Quiet m (definition_by d opening made false why entry m)
  definition_quiet (Some why) entry m e = absurd cc
  definition_quiet None entry m e = defining_quiet m.history.open_ entry m e

  start_quiet : (open_ : Bool) (modes : NewModes) (entry : Entry) (m : Machine) → (attempt_start d opening made open_ modes entry m).final ≡ false → Quiet m (attempt_start d opening made open_ modes entry m)
  start_quiet true modes entry m e = absurd cc
  start_quiet false modes entry m e = absurd cc

  commit_quiet : (how : Ending) (s : ℕ) (m : Machine) → (commit_by d opening made how s m).final ≡ false → Quiet m (commit_by d opening made how s m)
  commit_quiet Empty s m e = absurd cc
  commit_quiet Fits s m e = absurd cc
  commit_quiet TooManyChanges s m e = absurd cc
  commit_quiet LogFull s m e = absurd cc

  commits_quiet : (found : Option Open) (s : ℕ) (m : Machine) → (attempt_commit d opening made found s m).final ≡ false → Quiet m (attempt_commit d opening made found s m)
  commits_quiet None s m e = absurd cc
  commits_quiet (Some o) s m e = commit_quiet (ending_of d opening made m (commit_of o)) s m e

  rollback_quiet : (open_ : Bool) (s : ℕ) (m : Machine) → (attempt_rollback d opening made open_ s m).final ≡ false → Quiet m (attempt_rollback d opening made open_ s m)
  rollback_quiet false s m e = absurd cc
  rollback_quiet true s m e = absurd cc

  request_quiet : (r : Request) (entry : Entry) (m : Machine) → (attempt_by d opening made r false entry m).final ≡ false → Quiet m (attempt_by d opening made r false entry m)
  request_quiet (request.Faulty why) entry m e = absurd cc
  request_quiet request.OfData entry m e = let o = own_of d opening made m (data_event d opening made m entry false) in data_quiet (d.refusal o.read_only (seen_by d opening made m o) entry.text) entry o m e
  request_quiet request.OfDefinition entry m e = let o = own_of d opening made m (commits_event d opening made m entry.session) in definition_quiet (d.refusal o.read_only (seen_by d opening made m o) entry.text) entry m e
  request_quiet (request.Starts modes) entry m e = start_quiet (is_open m entry.session) modes entry m e
  request_quiet request.Commits entry m e = commits_quiet (open_of m entry.session) entry.session m e
  request_quiet request.RollsBack entry m e = rollback_quiet (is_open m entry.session) entry.session m e
  request_quiet (request.OnSettings control) entry m e = absurd cc

  pub quiet : (entry : Entry) (m : Machine) → (attempt d opening made false entry m).final ≡ false → Quiet m (attempt d opening made false entry m)
  quiet entry m e = request_quiet (d.request entry.text) entry m e
