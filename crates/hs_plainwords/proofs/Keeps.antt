-- Attempts lead from catalogues that pass the test to such catalogues.
use Rattle.std.proofs.Common.{◌≡◌, ℕ, ◌&&◌, not, Bool, true, false, List, [], ◌∷◌}
use Rattle.std.specs.Prelude.{Option, None, Some, Result, Ok, Err, if◌then◌else◌}
use Rattle.std.specs.Str.{is_utf8}
use Rattle.hs_ast.specs.declared.session.Modes.{Modes as NewModes}
use Rattle.hs_claims.specs.declared.claim.Claim.{Claim}
use Rattle.hs_claims.specs.Wants.{wants_of}
use Rattle.hs_plan.specs.declared.definition.Definition.{Definition}
use Rattle.hs_changes.specs.Changes.{count_all_inserted}
use Rattle.hs_schema.specs.Catalogue.{Text, Things}
use Rattle.hs_sessions.specs.declared.control.Control.{Control}
use Rattle.hs_turns.specs.Database.{Database}
use Rattle.hs_turns.specs.Transactions.Statement.{Data, OnSession}
use Rattle.hs_turns.specs.Histories.{Open, base, commit_of, is_free, newer, no_conflict, others}
use Rattle.hs_turns.specs.Events.{Event, definition_commit, said}
use Rattle.hs_turns.specs.Events.{Act as act}
use Rattle.hs_turns.specs.Dialect.{Dialect, Request, language_of}
use Rattle.hs_turns.specs.Dialect.{Request as request}
use Rattle.hs_turns.specs.Lines.{Words, First}
use Rattle.hs_turns.specs.Waiting.{Entry}
use Rattle.hs_turns.specs.Machine.{Machine, event, happens, is_open, open_of, settings_of, with_modes_used}
use Rattle.hs_turns.specs.Attempts.{Ending, Empty, Fits, LogFull, TooManyChanges, attempt, attempt_by, attempt_commit, attempt_rollback, attempt_start, auto_ended, begins_event, blockers, bound_definition, commit_by, commits_event, committed_own, data_by, data_event, defined, defined_by, defining, definition_by, ending_of, held_up, held_up_data, in_transaction, is_savepoint, judged_data, leading_back, left_own, named, next_number, noted, noted_by, open_sessions, own_by, own_first, own_of, present, ready, seen_by, takes, went_on}
use Rattle.hs_plainwords.specs.Dialects.{IsPlainDialect}
use Rattle.hs_plainwords.proofs.Named.{IsRead, Named, steps}

module _ (is_named : Things → Bool) (d : Dialect) (its : IsPlainDialect is_named d) (opening : Database) (made : ℕ) where
  abbrev N : Machine → Type 0
  N m = Named is_named d its opening m.history

  goes : (e : Event) → IsRead is_named d its opening e.act → (m : Machine) → N m → N (happens d opening e m)
  goes e good m n = steps is_named d its opening e good m.history n

  either : (b : Bool) (x y : Machine) → N x → N y → N (if b then x else y)
  either true x y p q = p
  either false x y p q = q

  taken : (e : Event) → IsRead is_named d its opening e.act → (m : Machine) → N m → N (takes d opening made e m)
  taken e good m n = either (is_open m e.session) (happens d opening e m) (with_modes_used e.session (happens d opening e m)) (goes e good m n) (goes e good m n)

  pub left : (s : ℕ) (m : Machine) → N m → N (left_own d opening made s m)
  left s m n = goes (event m s false false act.Leaves) tt m n

  module _ (entry : Entry) (good : is_utf8 entry.text ≡ true) where
    -- ---- refusals in place

    noting_by : (found : Option Open) (m : Machine) → N m → N (noted_by d opening made found entry m)
    noting_by None m n = n
    noting_by (Some o) m n =
        let e = event m entry.session false false (act.Says (Data entry.text)) in either o.auto (left_own d opening made entry.session m) (happens d opening e m) (left entry.session m n) (goes e good m n)

    noting : (m : Machine) → N m → N (noted d opening made entry m)
    noting m n = noting_by (open_of m entry.session) m n

    -- ---- data statements

    data_taken : (back : Bool) (m : Machine) → N m → N (takes d opening made (data_event d opening made m entry back) m)
    data_taken back m n = taken (data_event d opening made m entry back) good m n

    auto_ends : (how : Ending) (after : Open) (m : Machine) → N m → N (auto_ended d opening made how entry after m).next
    auto_ends Empty after m n = data_taken false m n
    auto_ends Fits after m n = data_taken false m n
    auto_ends TooManyChanges after m n = data_taken false m n
    auto_ends LogFull after m n = taken (record (data_event d opening made m entry false) { act = act.Leaves }) tt m n

    goes_on : (auto : Bool) (after : Open) (m : Machine) → N m → N (went_on d opening made auto entry after m).next
    goes_on true after m n = auto_ends (ending_of d opening made m (commit_of after)) after m n
    goes_on false after m n = data_taken false m n

    holds_up : (back : Option ℕ) (b : List ℕ) (m : Machine) → N m → N (held_up_data d opening made back b entry m).next
    holds_up (Some back) b m n = data_taken true m n
    holds_up None b m n = data_taken false m n

    judges : (free clear : Bool) (o : Open) (wanted : List Claim) (m : Machine) → N m → N (judged_data d opening made free clear entry o wanted m).next
    judges true true o wanted m n = goes_on o.auto (said (language_of d) (base m.history.kind opening m.history.commits o) (Data entry.text) o) m n
    judges true false o wanted m n = data_taken false m n
    judges false clear o wanted m n = let b = blockers m entry.session wanted in holds_up (leading_back m entry.session b) b m n

    of_data : (why : Option Text) (o : Open) (m : Machine) → N m → N (data_by d opening made why entry o m).next
    of_data (Some why) o m n = noting m n
    of_data None o m n =
        let foot = ((language_of d).outcome o.read_only (count_all_inserted o.trace.changes) (seen_by d opening made m o) entry.text).foot in
        judges (is_free m.history.kind o foot (others entry.session m.history.open_)) (no_conflict m.history.kind o foot (newer m.history.commits o)) o (wants_of m.history.kind o.level o.read_only foot) m n

    -- ---- definitions

    defines : (how : Ending) (before : List Words) (m : Machine) → N m → N (defined_by d opening made how before entry m).next
    defines Empty before m n = n
    defines Fits before m n = goes (event m entry.session false false (act.Defines entry.text)) good m n
    defines TooManyChanges before m n = n
    defines LogFull before m n = n

    of_defined : (found : Result Definition Text) (before : List Words) (m : Machine) → N m → N (defined d opening made found before entry m).next
    of_defined (Err why) before m n = n
    of_defined (Ok definition) before m n = defines (ending_of d opening made m (definition_commit entry.session definition)) before m n

    blocked : (back : Option ℕ) (b : List ℕ) (before : List Words) (m : Machine) → N m → N (held_up d opening made back b before entry m).next
    blocked (Some back) b before m n = n
    blocked None b before m n = n

    waits_or_defines : (os : List Open) (before : List Words) (m : Machine) → N m → N (defining d opening made os before entry m).next
    waits_or_defines [] before m n = of_defined (d.definition (present d opening made m) entry.text) before m n
    waits_or_defines (o ∷ os) before m n = let b = open_sessions m in blocked (leading_back m entry.session b) b before m n

    own_commits : (s : ℕ) (m : Machine) → N m → N (committed_own d opening made m s)
    own_commits s m n = goes (commits_event d opening made m s) tt m n

    after_own : (before : List Words) (m : Machine) → N m → N (defining d opening made (committed_own d opening made m entry.session).history.open_ before entry (committed_own d opening made m entry.session)).next
    after_own before m n = let next = committed_own d opening made m entry.session in waits_or_defines next.history.open_ before next (own_commits entry.session m n)

    owns : (how : Ending) (m : Machine) → N m → N (own_by d opening made how entry m).next
    owns Empty m n = after_own [] m n
    owns Fits m n = after_own (First (next_number d opening made m) ∷ []) m n
    owns TooManyChanges m n = n
    owns LogFull m n = n

    first_own : (found : Option Open) (m : Machine) → N m → N (own_first d opening made found entry m).next
    first_own None m n = waits_or_defines m.history.open_ [] m n
    first_own (Some o) m n = owns (ending_of d opening made m (commit_of o)) m n

    bound : (is_first : Bool) (m : Machine) → N m → N (bound_definition d opening made is_first entry m).next
    bound true m n = first_own (open_of m entry.session) m n
    bound false m n = waits_or_defines m.history.open_ [] m n

    of_definition : (is_first : Bool) (why : Option Text) (m : Machine) → N m → N (definition_by d opening made is_first why entry m).next
    of_definition is_first (Some why) m n = noting m n
    of_definition is_first None m n = bound is_first m n

    -- ---- the others

    starts : (open_ : Bool) (modes : NewModes) (m : Machine) → N m → N (attempt_start d opening made open_ modes entry m).next
    starts true modes m n = noting m n
    starts false modes m n = let with_named = named d opening made modes entry.session m in taken (begins_event d opening made with_named entry.session) tt with_named n

    commits_by : (how : Ending) (s : ℕ) (m : Machine) → N m → N (commit_by d opening made how s m).next
    commits_by Empty s m n = own_commits s m n
    commits_by Fits s m n = own_commits s m n
    commits_by TooManyChanges s m n = n
    commits_by LogFull s m n = n

    commits : (found : Option Open) (s : ℕ) (m : Machine) → N m → N (attempt_commit d opening made found s m).next
    commits None s m n = n
    commits (Some o) s m n = commits_by (ending_of d opening made m (commit_of o)) s m n

    rolls_back : (open_ : Bool) (s : ℕ) (m : Machine) → N m → N (attempt_rollback d opening made open_ s m).next
    rolls_back false s m n = n
    rolls_back true s m n = left s m n

    readies : (control : Control) (s : ℕ) (m : Machine) → N m → N (ready d opening made control s m)
    readies control s m n = either (is_savepoint control && not (settings_of m s).autocommit && not (is_open m s)) (takes d opening made (begins_event d opening made m s) m) m (taken (begins_event d opening made m s) tt m n) n

    controls : (control : Control) (s : ℕ) (m : Machine) → N m → N (in_transaction d opening made control s m).next
    controls control s m n = let e = event m s false false (act.Says (OnSession control)) in either (is_open m s) (happens d opening e m) m (goes e tt m n) n

    by_request : (r : Request) (is_first : Bool) (m : Machine) → N m → N (attempt_by d opening made r is_first entry m).next
    by_request (request.Faulty why) is_first m n = noting m n
    by_request request.OfData is_first m n = let o = own_of d opening made m (data_event d opening made m entry false) in of_data (d.refusal o.read_only (seen_by d opening made m o) entry.text) o m n
    by_request request.OfDefinition is_first m n = let o = own_of d opening made m (commits_event d opening made m entry.session) in of_definition is_first (d.refusal o.read_only (seen_by d opening made m o) entry.text) m n
    by_request (request.Starts modes) is_first m n = starts (is_open m entry.session) modes m n
    by_request request.Commits is_first m n = commits (open_of m entry.session) entry.session m n
    by_request request.RollsBack is_first m n = rolls_back (is_open m entry.session) entry.session m n
    by_request (request.OnSettings control) is_first m n = controls control entry.session (ready d opening made control entry.session m) (readies control entry.session m n)

    pub attempts : (is_first : Bool) (m : Machine) → N m → N (attempt d opening made is_first entry m).next
    attempts is_first m n = by_request (d.request entry.text) is_first m n
