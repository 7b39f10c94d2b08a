-- What an attempt comes to beside others that wait, are queued or aren't read: what it comes to alone.
use Rattle.std.proofs.Common.{◌≡◌, ℕ, Bool, true, false, List, [], ◌∷◌, ◌||◌, refl, ap, ◌∙◌}
use Rattle.std.specs.Prelude.{Option, None, Some, Result, Ok, Err, if◌then◌else◌, ◌&&◌, not, codes}
use Rattle.hs_ast.specs.declared.session.Modes.{Modes as NewModes}
use Rattle.hs_claims.specs.declared.claim.Claim.{Claim}
use Rattle.hs_claims.specs.Wants.{wants_of}
use Rattle.hs_plan.specs.declared.definition.Definition.{Definition}
use Rattle.hs_changes.specs.Changes.{count_all_inserted}
use Rattle.hs_schema.specs.Catalogue.{Text}
use Rattle.hs_sessions.specs.declared.control.Control.{Control}
use Rattle.hs_sessions.specs.declared.control.ControlReply.{ControlReply}
use Rattle.hs_sessions.specs.Settings.{controlled}
use Rattle.hs_turns.specs.Database.{Database}
use Rattle.hs_turns.specs.Transactions.Statement.{Data, OnSession}
use Rattle.hs_turns.specs.Histories.{Open, base, commit_of, is_free, newer, no_conflict, others}
use Rattle.hs_turns.specs.Events.{Event, definition_commit, said}
use Rattle.hs_turns.specs.Events.{Act as act}
use Rattle.hs_turns.specs.Dialect.{Dialect, Request, language_of, open_transaction}
use Rattle.hs_turns.specs.Dialect.{Request as request}
use Rattle.hs_turns.specs.Lines.{Words, First}
use Rattle.hs_turns.specs.Waiting.{Entry}
use Rattle.hs_turns.specs.Machine.{Machine, settings_of, with_settings, with_modes_used, open_of, is_open, session_seen, settings_in, event, happens, ends}
use Rattle.hs_turns.specs.Attempts.{Attempt, Ending, Empty, Fits, TooManyChanges, LogFull, answers, refuses, waits_on, done, blockers, open_sessions, leading_back, ending_of, own_of, seen_by, takes, noted, noted_by, refusal_told, refused_in_place, newest, data_event, auto_ended, went_on, held_up_data, judged_data, data_by, defined_by, defined, held_up, defining, commits_event, committed_own, own_by, own_first, bound_definition, definition_by, begins_event, named, attempt_start, commit_by, attempt_commit, left_own, attempt_rollback, is_savepoint, ready, noted_control, control_told, in_transaction, attempt_control, attempt_by, attempt, present, next_number, conflict_words, deadlock_words}
use Rattle.hs_turns.proofs.Follows.{Follows, attempts as follows}
use Rattle.hs_sides.specs.Sides.{Run, alone, attempted, in_place, side_of}

-- a machine with the waiters, the queue and the input of another
abbrev pub beside : Machine → Machine → Machine
beside m n = record n { seen = m.seen; pass = m.pass; again = n.again || m.again; queue = m.queue; unread = m.unread; closed = m.closed }

abbrev pub lifted : Machine → Attempt → Attempt
lifted m a = record { words = a.words; final = a.final; next = beside m a.next }

module _ (d : Dialect) (opening : Database) (made : ℕ) (m : Machine) where
  abbrev B : Machine → Machine
  B n = beside m n

  abbrev L : Attempt → Attempt
  L a = lifted m a

  either : (b : Bool) (x y : Machine) → (if b then B x else B y) ≡ B (if b then x else y)
  either true x y = refl
  either false x y = refl

  taken : (e : Event) (n : Machine) → takes d opening made e (B n) ≡ B (takes d opening made e n)
  taken e n = either (is_open n e.session) (happens d opening e n) (with_modes_used e.session (happens d opening e n))

  noting_by : (found : Option Open) (entry : Entry) (n : Machine) → noted_by d opening made found entry (B n) ≡ B (noted_by d opening made found entry n)
  noting_by None entry n = refl
  noting_by (Some o) entry n = either o.auto (left_own d opening made entry.session n) (happens d opening (event n entry.session false false (act.Says (Data entry.text))) n)

  noting : (entry : Entry) (n : Machine) → noted d opening made entry (B n) ≡ B (noted d opening made entry n)
  noting entry n = noting_by (open_of n entry.session) entry n

  refusal : (found : Option Open) (entry : Entry) (why : Text) (n : Machine) → refusal_told d opening made found entry why (B n) ≡ refusal_told d opening made found entry why n
  refusal None entry why n = refl
  refusal (Some o) entry why n = refl

  refused : (entry : Entry) (why : Text) (n : Machine) → refused_in_place d opening made entry why (B n) ≡ L (refused_in_place d opening made entry why n)
  refused entry why n =
      ap (λ (w : List Words). answers w (noted d opening made entry (B n))) (refusal (open_of n entry.session) entry why n)
      ∙ ap (λ (k : Machine). answers (refusal_told d opening made (open_of n entry.session) entry why n) k) (noting entry n)

  -- ---- data statements

  auto_ends : (how : Ending) (entry : Entry) (after : Open) (n : Machine) → auto_ended d opening made how entry after (B n) ≡ L (auto_ended d opening made how entry after n)
  auto_ends Empty entry after n = ap (λ (k : Machine). answers (newest d opening made after None) (ends entry.session k)) (taken (data_event d opening made n entry false) n)
  auto_ends Fits entry after n = ap (λ (k : Machine). answers (newest d opening made after (Some (next_number d opening made n))) (ends entry.session k)) (taken (data_event d opening made n entry false) n)
  auto_ends TooManyChanges entry after n = ap (λ (k : Machine). refuses [] (codes "changes") (ends entry.session k)) (taken (data_event d opening made n entry false) n)
  auto_ends LogFull entry after n = let e : Event = record (data_event d opening made n entry false) { act = act.Leaves } in ap (λ (k : Machine). refuses [] (codes "log full") (ends entry.session k)) (taken e n)

  goes_on : (auto : Bool) (entry : Entry) (after : Open) (n : Machine) → went_on d opening made auto entry after (B n) ≡ L (went_on d opening made auto entry after n)
  goes_on true entry after n = auto_ends (ending_of d opening made n (commit_of after)) entry after n
  goes_on false entry after n = ap (λ (k : Machine). answers (newest d opening made after None) k) (taken (data_event d opening made n entry false) n)

  holds_up : (back : Option ℕ) (b : List ℕ) (entry : Entry) (n : Machine) → held_up_data d opening made back b entry (B n) ≡ L (held_up_data d opening made back b entry n)
  holds_up (Some back) b entry n = ap (λ (k : Machine). refuses [] (deadlock_words n back) (ends entry.session k)) (taken (data_event d opening made n entry true) n)
  holds_up None b entry n = ap (λ (k : Machine). waits_on b [] entry k) (taken (data_event d opening made n entry false) n)

  judges : (free clear : Bool) (entry : Entry) (o : Open) (wanted : List Claim) (n : Machine) → judged_data d opening made free clear entry o wanted (B n) ≡ L (judged_data d opening made free clear entry o wanted n)
  judges true true entry o wanted n = goes_on o.auto entry (said (language_of d) (base n.history.kind opening n.history.commits o) (Data entry.text) o) n
  judges true false entry o wanted n = ap (λ (k : Machine). refuses [] (conflict_words d opening made n o wanted) (ends entry.session k)) (taken (data_event d opening made n entry false) n)
  judges false clear entry o wanted n = let b = blockers n entry.session wanted in holds_up (leading_back n entry.session b) b entry n

  of_data : (why : Option Text) (entry : Entry) (o : Open) (n : Machine) → data_by d opening made why entry o (B n) ≡ L (data_by d opening made why entry o n)
  of_data (Some why) entry o n = refused entry why n
  of_data None entry o n =
      let out = (language_of d).outcome o.read_only (count_all_inserted o.trace.changes) (seen_by d opening made n o) entry.text in
      judges (is_free n.history.kind o out.foot (others entry.session n.history.open_)) (no_conflict n.history.kind o out.foot (newer n.history.commits o)) entry o (wants_of n.history.kind o.level o.read_only out.foot) n

  -- ---- definitions

  defines : (how : Ending) (before : List Words) (entry : Entry) (n : Machine) → defined_by d opening made how before entry (B n) ≡ L (defined_by d opening made how before entry n)
  defines Empty before entry n = refl
  defines Fits before entry n = refl
  defines TooManyChanges before entry n = refl
  defines LogFull before entry n = refl

  of_defined : (found : Result Definition Text) (before : List Words) (entry : Entry) (n : Machine) → defined d opening made found before entry (B n) ≡ L (defined d opening made found before entry n)
  of_defined (Err why) before entry n = refl
  of_defined (Ok definition) before entry n = defines (ending_of d opening made n (definition_commit entry.session definition)) before entry n

  blocked : (back : Option ℕ) (b : List ℕ) (before : List Words) (entry : Entry) (n : Machine) → held_up d opening made back b before entry (B n) ≡ L (held_up d opening made back b before entry n)
  blocked (Some back) b before entry n = refl
  blocked None b before entry n = refl

  waits_or_defines : (os : List Open) (before : List Words) (entry : Entry) (n : Machine) → defining d opening made os before entry (B n) ≡ L (defining d opening made os before entry n)
  waits_or_defines [] before entry n = of_defined (d.definition (present d opening made n) entry.text) before entry n
  waits_or_defines (o ∷ os) before entry n = let b = open_sessions n in blocked (leading_back n entry.session b) b before entry n

  after_own : (before : List Words) (entry : Entry) (n : Machine) → let next = committed_own d opening made n entry.session in defining d opening made next.history.open_ before entry (B next) ≡ L (defining d opening made next.history.open_ before entry next)
  after_own before entry n = let next = committed_own d opening made n entry.session in waits_or_defines next.history.open_ before entry next

  owns : (how : Ending) (entry : Entry) (n : Machine) → own_by d opening made how entry (B n) ≡ L (own_by d opening made how entry n)
  owns Empty entry n = after_own [] entry n
  owns Fits entry n = after_own (First (next_number d opening made n) ∷ []) entry n
  owns TooManyChanges entry n = refl
  owns LogFull entry n = refl

  first_own : (found : Option Open) (entry : Entry) (n : Machine) → own_first d opening made found entry (B n) ≡ L (own_first d opening made found entry n)
  first_own None entry n = waits_or_defines n.history.open_ [] entry n
  first_own (Some o) entry n = owns (ending_of d opening made n (commit_of o)) entry n

  bound : (is_first : Bool) (entry : Entry) (n : Machine) → bound_definition d opening made is_first entry (B n) ≡ L (bound_definition d opening made is_first entry n)
  bound true entry n = first_own (open_of n entry.session) entry n
  bound false entry n = waits_or_defines n.history.open_ [] entry n

  of_definition : (is_first : Bool) (why : Option Text) (entry : Entry) (n : Machine) → definition_by d opening made is_first why entry (B n) ≡ L (definition_by d opening made is_first why entry n)
  of_definition is_first (Some why) entry n = refused entry why n
  of_definition is_first None entry n = bound is_first entry n

  -- ---- the others

  starts : (open_ : Bool) (modes : NewModes) (entry : Entry) (n : Machine) → attempt_start d opening made open_ modes entry (B n) ≡ L (attempt_start d opening made open_ modes entry n)
  starts true modes entry n = refused entry open_transaction n
  starts false modes entry n = let k = named d opening made modes entry.session n in ap (λ (x : Machine). done None x) (taken (begins_event d opening made k entry.session) k)

  commits_by : (how : Ending) (s : ℕ) (n : Machine) → commit_by d opening made how s (B n) ≡ L (commit_by d opening made how s n)
  commits_by Empty s n = refl
  commits_by Fits s n = refl
  commits_by TooManyChanges s n = refl
  commits_by LogFull s n = refl

  commits : (found : Option Open) (s : ℕ) (n : Machine) → attempt_commit d opening made found s (B n) ≡ L (attempt_commit d opening made found s n)
  commits None s n = refl
  commits (Some o) s n = commits_by (ending_of d opening made n (commit_of o)) s n

  rolls_back : (open_ : Bool) (s : ℕ) (n : Machine) → attempt_rollback d opening made open_ s (B n) ≡ L (attempt_rollback d opening made open_ s n)
  rolls_back false s n = refl
  rolls_back true s n = refl

  ready_by : (b : Bool) (e : Event) (n : Machine) → (if b then takes d opening made e (B n) else B n) ≡ B (if b then takes d opening made e n else n)
  ready_by true e n = taken e n
  ready_by false e n = refl

  readies : (control : Control) (s : ℕ) (n : Machine) → ready d opening made control s (B n) ≡ B (ready d opening made control s n)
  readies control s n = ready_by (is_savepoint control && not (settings_of n s).autocommit && not (is_open n s)) (begins_event d opening made n s) n

  notes : (control : Control) (s : ℕ) (n : Machine) → noted_control d opening made control s (B n) ≡ B (noted_control d opening made control s n)
  notes control s n = either (is_open n s) (happens d opening (event n s false false (act.Says (OnSession control))) n) n

  told_same : (found : Option Open) (r : ControlReply) (control : Control) (n : Machine) → control_told d opening made found r control (B n) ≡ control_told d opening made found r control n
  told_same None r control n = refl
  told_same (Some o) r control n = refl

  sets : (control : Control) (s : ℕ) (n : Machine) → in_transaction d opening made control s (B n) ≡ L (in_transaction d opening made control s n)
  sets control s n =
      let done_ = controlled control (session_seen (settings_of n s) (open_of n s)) in
      ap (λ (w : List Words). answers w (with_settings s (settings_in done_.1) (noted_control d opening made control s (B n)))) (told_same (open_of n s) done_.0 control n)
      ∙ ap (λ (k : Machine). answers (control_told d opening made (open_of n s) done_.0 control n) (with_settings s (settings_in done_.1) k)) (notes control s n)

  controls : (control : Control) (s : ℕ) (n : Machine) → attempt_control d opening made control s (B n) ≡ L (attempt_control d opening made control s n)
  controls control s n = ap (λ (k : Machine). in_transaction d opening made control s k) (readies control s n) ∙ sets control s (ready d opening made control s n)

  by_request : (r : Request) (is_first : Bool) (entry : Entry) (n : Machine) → attempt_by d opening made r is_first entry (B n) ≡ L (attempt_by d opening made r is_first entry n)
  by_request (request.Faulty why) is_first entry n = refused entry why n
  by_request request.OfData is_first entry n = let o = own_of d opening made n (data_event d opening made n entry false) in of_data (d.refusal o.read_only (seen_by d opening made n o) entry.text) entry o n
  by_request request.OfDefinition is_first entry n = let o = own_of d opening made n (commits_event d opening made n entry.session) in of_definition is_first (d.refusal o.read_only (seen_by d opening made n o) entry.text) entry n
  by_request (request.Starts modes) is_first entry n = starts (is_open n entry.session) modes entry n
  by_request request.Commits is_first entry n = commits (open_of n entry.session) entry.session n
  by_request request.RollsBack is_first entry n = rolls_back (is_open n entry.session) entry.session n
  by_request (request.OnSettings control) is_first entry n = controls control entry.session n

  all_requests : (is_first : Bool) (entry : Entry) (n : Machine) → attempt d opening made is_first entry (B n) ≡ L (attempt d opening made is_first entry n)
  all_requests is_first entry n = by_request (d.request entry.text) is_first entry n

-- an attempt leaves the names of the sessions
named_same : (run : Run) (is_first : Bool) (entry : Entry) (m : Machine) → (attempted run m.names is_first entry (side_of m)).next.names ≡ m.names
named_same run is_first entry m = let f : Follows run.dialect run.opening (alone m.names (side_of m)) (attempted run m.names is_first entry (side_of m)).next = follows run.dialect run.opening run.made is_first entry (alone m.names (side_of m)) in f.names

pub its_own : (run : Run) (is_first : Bool) (entry : Entry) (m : Machine) → attempt run.dialect run.opening run.made is_first entry m ≡ in_place m (attempted run m.names is_first entry (side_of m))
its_own run is_first entry m =
    let a = attempted run m.names is_first entry (side_of m) in
    all_requests run.dialect run.opening run.made m is_first entry (alone m.names (side_of m))
    ∙ ap (λ (names : List Text). record { words = a.words; final = a.final; next = record (in_place m a).next { names = names } }) (named_same run is_first entry m)
