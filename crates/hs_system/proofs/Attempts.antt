-- An attempt keeps what commits keep for which the log has room.
use Rattle.std.proofs.Common.{◌≡◌, ℕ, ◌&&◌, not, Bool, true, false, List, [], ◌∷◌, ◌++◌, length, refl, sym, ap, ◌∙◌, subst}
use Rattle.std.specs.Prelude.{Option, None, Some, Result, Ok, Err, if◌then◌else◌}
use Rattle.hs_ast.specs.declared.session.Modes.{Modes as NewModes}
use Rattle.hs_claims.specs.declared.footprint.Footprint.{Footprint}
use Rattle.hs_claims.specs.Wants.{wants_of}
use Rattle.hs_plan.specs.declared.definition.Definition.{Definition}
use Rattle.hs_changes.specs.Changes.{count_all_inserted}
use Rattle.hs_schema.specs.Catalogue.{Text}
use Rattle.hs_sessions.specs.declared.control.Control.{Control}
use Rattle.hs_turns.specs.Database.{Database, has_room}
use Rattle.hs_turns.specs.Transactions.Statement.{Data, OnSession}
use Rattle.hs_turns.specs.Histories.{Open, Commit, base, commit_of, is_free, newer, no_conflict, others}
use Rattle.hs_turns.specs.Events.{Event, commit, definition_commit, finish, fresh, said, stays_open}
use Rattle.hs_turns.specs.Events.{Act as act}
use Rattle.hs_turns.specs.Dialect.{Dialect, Request, accepted, language_of}
use Rattle.hs_turns.specs.Dialect.{Request as request}
use Rattle.hs_turns.specs.Lines.{Words, First}
use Rattle.hs_turns.specs.Waiting.{Entry}
use Rattle.hs_turns.specs.Machine.{Machine, settings_of, open_of, is_open, event, happens, with_modes_used}
use Rattle.hs_turns.specs.Attempts.{Ending, Empty, Fits, TooManyChanges, LogFull, ending_by, blockers, open_sessions, leading_back, ending_of, own_of, seen_by, takes, noted, noted_by, data_event, auto_ended, went_on, held_up_data, judged_data, data_by, defined_by, defined, held_up, defining, commits_event, committed_own, own_by, own_first, bound_definition, definition_by, begins_event, named, attempt_start, commit_by, attempt_commit, left_own, attempt_rollback, is_savepoint, ready, in_transaction, attempt_by, attempt, present, next_number}
use Rattle.hs_turns.proofs.Opened.{own_found}
use Rattle.hs_system.proofs.Kept.{HasNoFullLog, commits, defines_keeps, judged_keeps}

both : (b : Bool) → b ≡ true → b ≡ false → ⊥
both true e f = absurd cc
both false e f = absurd cc

has_no_full_log : (how it : Ending) → it ≡ how → HasNoFullLog how → HasNoFullLog it
has_no_full_log how it is h = subst HasNoFullLog (sym is) h

module _ (d : Dialect) (opening : Database) (made : ℕ) (Holds : List Commit → Type 0) (more : (ks : List Commit) (k : Commit) → Holds ks → d.has_log_room ks k ≡ true → Holds (ks ++ k ∷ [])) where
  abbrev pub M : Machine → Type 0
  M m = Holds m.history.commits

  taken_by : (b : Bool) (e : Event) (m : Machine) → M (happens d opening e m) → M (if b then happens d opening e m else with_modes_used e.session (happens d opening e m))
  taken_by true e m p = p
  taken_by false e m p = p

  own_is : (m : Machine) (e : Event) (o : Open) → open_of m e.session ≡ Some o → own_of d opening made m e ≡ o
  own_is m e o is = own_found e.session (fresh m.history.kind e (length m.history.commits)) o m.history.open_ is

  either : (b : Bool) (x y : Machine) → M x → M y → M (if b then x else y)
  either true x y p q = p
  either false x y p q = q

  -- ---- data statements

  module _ (entry : Entry) (m : Machine) (p : M m) where
    abbrev s : ℕ
    s = entry.session

    abbrev de : Event
    de = data_event d opening made m entry false

    abbrev o : Open
    o = own_of d opening made m de

    abbrev foot_ : Footprint
    foot_ = ((language_of d).outcome o.read_only (count_all_inserted o.trace.changes) (seen_by d opening made m o) entry.text).foot

    abbrev after_ : Open
    after_ = said (language_of d) (base m.history.kind opening m.history.commits o) (Data entry.text) o

    abbrev is_free_ : Bool
    is_free_ = is_free m.history.kind o foot_ (others s m.history.open_)

    abbrev is_clear_ : Bool
    is_clear_ = no_conflict m.history.kind o foot_ (newer m.history.commits o)

    data_keeps : (back : Bool) → (is_free_ ≡ true → is_clear_ ≡ true → after_.auto ≡ true → Holds (commit opening after_ s m.history (finish false o s m.history)).commits) → M (takes d opening made (data_event d opening made m entry back) m)
    data_keeps back f = taken_by (is_open m s) (data_event d opening made m entry back) m (judged_keeps d opening Holds more is_free_ is_clear_ back o after_ s m.history f p)

    auto_commits : (how : Ending) → ending_of d opening made m (commit_of after_) ≡ how → HasNoFullLog how → M (takes d opening made de m)
    auto_commits how is not_full = data_keeps false (λ _ _ _. commits d opening Holds more after_ s m.history (finish false o s m.history) (has_no_full_log how (ending_of d opening made m (commit_of after_)) is not_full) p p)

    auto_keeps : (how : Ending) → ending_of d opening made m (commit_of after_) ≡ how → M (auto_ended d opening made how entry after_ m).next
    auto_keeps Empty is = auto_commits Empty is tt
    auto_keeps Fits is = auto_commits Fits is tt
    auto_keeps TooManyChanges is = auto_commits TooManyChanges is tt
    auto_keeps LogFull is = taken_by (is_open m s) (record de { act = act.Leaves }) m p

    went_keeps : (auto : Bool) → o.auto ≡ auto → M (went_on d opening made auto entry after_ m).next
    went_keeps true auto = auto_keeps (ending_of d opening made m (commit_of after_)) refl
    went_keeps false auto = data_keeps false (λ _ _ f. absurd (both o.auto f auto))

    held_keeps : (back : Option ℕ) (b : List ℕ) → is_free_ ≡ false → M (held_up_data d opening made back b entry m).next
    held_keeps (Some back) b held = data_keeps true (λ f _ _. absurd (both is_free_ f held))
    held_keeps None b held = data_keeps false (λ f _ _. absurd (both is_free_ f held))

    judges : (free clear : Bool) → is_free_ ≡ free → is_clear_ ≡ clear → M (judged_data d opening made free clear entry o (wants_of m.history.kind o.level o.read_only foot_) m).next
    judges true true e f = went_keeps o.auto refl
    judges true false e f = data_keeps false (λ _ g _. absurd (both is_clear_ g f))
    judges false clear e f = let b = blockers m s (wants_of m.history.kind o.level o.read_only foot_) in held_keeps (leading_back m s b) b e

    -- ---- a refusal

    noted_auto : (x : Open) → open_of m s ≡ Some x → (t : Bool) → x.auto ≡ t → M (if t then left_own d opening made s m else happens d opening (event m s false false (act.Says (Data entry.text))) m)
    noted_auto x is true auto = p
    noted_auto x is false auto =
        let e = event m s false false (act.Says (Data entry.text)) in
        let q = own_of d opening made m e in
        let f = ((language_of d).outcome q.read_only (count_all_inserted q.trace.changes) (seen_by d opening made m q) entry.text).foot in
        judged_keeps d opening Holds more (is_free m.history.kind q f (others s m.history.open_)) (no_conflict m.history.kind q f (newer m.history.commits q)) false q (said (language_of d) (base m.history.kind opening m.history.commits q) (Data entry.text) q) s m.history
        (λ _ _ g. absurd (both q.auto g (ap (λ (y : Open). y.auto) (own_is m e x is) ∙ auto))) p

    noted_keeps : (found : Option Open) → open_of m s ≡ found → M (noted_by d opening made found entry m)
    noted_keeps None is = p
    noted_keeps (Some x) is = noted_auto x is x.auto refl

    notes : M (noted d opening made entry m)
    notes = noted_keeps (open_of m s) refl

    of_data : (why : Option Text) → M (data_by d opening made why entry o m).next
    of_data (Some why) = notes
    of_data None = judges is_free_ is_clear_ refl refl

  -- ---- definitions

  defines_well : (before : List Words) (entry : Entry) (m : Machine) (definition : Definition) (how : Ending) → d.definition (present d opening made m) entry.text ≡ Ok definition → ending_of d opening made m (definition_commit entry.session definition) ≡ how → M m
      → M (defined_by d opening made how before entry m).next
  defines_well before entry m definition Empty ok is p = p
  defines_well before entry m definition Fits ok is p = defines_keeps d opening Holds more entry.session entry.text definition m.history m.history.open_ (ap accepted ok) (log_of (has_room (present d opening made m) (definition_commit entry.session definition).changes) (d.has_log_room m.history.commits (definition_commit entry.session definition)) is) p where
    log_of : (room log : Bool) → ending_by (definition_commit entry.session definition).changes room log ≡ Fits → log ≡ true
    log_of true true is = refl
    log_of true false is = absurd cc
    log_of false log is = absurd cc
  defines_well before entry m definition TooManyChanges ok is p = p
  defines_well before entry m definition LogFull ok is p = p

  of_defined : (before : List Words) (entry : Entry) (m : Machine) (found : Result Definition Text) → d.definition (present d opening made m) entry.text ≡ found → M m → M (defined d opening made found before entry m).next
  of_defined before entry m (Err why) is p = p
  of_defined before entry m (Ok definition) is p = defines_well before entry m definition (ending_of d opening made m (definition_commit entry.session definition)) is refl p

  blocked : (back : Option ℕ) (b : List ℕ) (before : List Words) (entry : Entry) (m : Machine) → M m → M (held_up d opening made back b before entry m).next
  blocked (Some back) b before entry m p = p
  blocked None b before entry m p = p

  waits_or_defines : (os : List Open) (before : List Words) (entry : Entry) (m : Machine) → M m → M (defining d opening made os before entry m).next
  waits_or_defines [] before entry m p = of_defined before entry m (d.definition (present d opening made m) entry.text) refl p
  waits_or_defines (o ∷ os) before entry m p = let b = open_sessions m in blocked (leading_back m entry.session b) b before entry m p

  -- ---- the end of a session's own transaction

  own_commits : (m : Machine) (who : ℕ) (x : Open) (how : Ending) → open_of m who ≡ Some x → ending_of d opening made m (commit_of x) ≡ how → HasNoFullLog how → M m → M (committed_own d opening made m who)
  own_commits m who x how found is not_full p =
      let q = own_of d opening made m (commits_event d opening made m who) in
      let same : ending_of d opening made m (commit_of q) ≡ how = subst (λ (y : Open). ending_of d opening made m (commit_of y) ≡ how) (sym (own_is m (commits_event d opening made m who) x found)) is in
      commits d opening Holds more q who m.history (stays_open q who m.history) (has_no_full_log how (ending_of d opening made m (commit_of q)) same not_full) p p

  after_own : (before : List Words) (entry : Entry) (m : Machine) → M (committed_own d opening made m entry.session) → M (defining d opening made (committed_own d opening made m entry.session).history.open_ before entry (committed_own d opening made m entry.session)).next
  after_own before entry m p = let n = committed_own d opening made m entry.session in waits_or_defines n.history.open_ before entry n p

  owns : (entry : Entry) (m : Machine) (x : Open) (how : Ending) → open_of m entry.session ≡ Some x → ending_of d opening made m (commit_of x) ≡ how → M m → M (own_by d opening made how entry m).next
  owns entry m x Empty found is p = after_own [] entry m (own_commits m entry.session x Empty found is tt p)
  owns entry m x Fits found is p = after_own (First (next_number d opening made m) ∷ []) entry m (own_commits m entry.session x Fits found is tt p)
  owns entry m x TooManyChanges found is p = p
  owns entry m x LogFull found is p = p

  first_own : (entry : Entry) (m : Machine) (found : Option Open) → open_of m entry.session ≡ found → M m → M (own_first d opening made found entry m).next
  first_own entry m None is p = waits_or_defines m.history.open_ [] entry m p
  first_own entry m (Some x) is p = owns entry m x (ending_of d opening made m (commit_of x)) is refl p

  bound : (is_first : Bool) (entry : Entry) (m : Machine) → M m → M (bound_definition d opening made is_first entry m).next
  bound true entry m p = first_own entry m (open_of m entry.session) refl p
  bound false entry m p = waits_or_defines m.history.open_ [] entry m p

  of_definition : (is_first : Bool) (why : Option Text) (entry : Entry) (m : Machine) → M m → M (definition_by d opening made is_first why entry m).next
  of_definition is_first (Some why) entry m p = notes entry m p
  of_definition is_first None entry m p = bound is_first entry m p

  -- ---- the others

  starts : (open_ : Bool) (modes : NewModes) (entry : Entry) (m : Machine) → M m → M (attempt_start d opening made open_ modes entry m).next
  starts true modes entry m p = notes entry m p
  starts false modes entry m p = let n = named d opening made modes entry.session m in taken_by (is_open n entry.session) (begins_event d opening made n entry.session) n p

  commits_by : (who : ℕ) (m : Machine) (x : Open) (how : Ending) → open_of m who ≡ Some x → ending_of d opening made m (commit_of x) ≡ how → M m → M (commit_by d opening made how who m).next
  commits_by who m x Empty found is p = own_commits m who x Empty found is tt p
  commits_by who m x Fits found is p = own_commits m who x Fits found is tt p
  commits_by who m x TooManyChanges found is p = p
  commits_by who m x LogFull found is p = p

  ends_own : (who : ℕ) (m : Machine) (found : Option Open) → open_of m who ≡ found → M m → M (attempt_commit d opening made found who m).next
  ends_own who m None is p = p
  ends_own who m (Some x) is p = commits_by who m x (ending_of d opening made m (commit_of x)) is refl p

  rolls_back : (open_ : Bool) (who : ℕ) (m : Machine) → M m → M (attempt_rollback d opening made open_ who m).next
  rolls_back false who m p = p
  rolls_back true who m p = p

  readies : (control : Control) (who : ℕ) (m : Machine) → M m → M (ready d opening made control who m)
  readies control who m p =
      let e = begins_event d opening made m who in
      either (is_savepoint control && not (settings_of m who).autocommit && not (is_open m who)) (takes d opening made e m) m (taken_by (is_open m who) e m p) p

  controls : (control : Control) (who : ℕ) (m : Machine) → M m → M (in_transaction d opening made control who m).next
  controls control who m p = either (is_open m who) (happens d opening (event m who false false (act.Says (OnSession control))) m) m p p

  by_request : (r : Request) (is_first : Bool) (entry : Entry) (m : Machine) → M m → M (attempt_by d opening made r is_first entry m).next
  by_request (request.Faulty why) is_first entry m p = notes entry m p
  by_request request.OfData is_first entry m p = let o = own_of d opening made m (data_event d opening made m entry false) in of_data entry m p (d.refusal o.read_only (seen_by d opening made m o) entry.text)
  by_request request.OfDefinition is_first entry m p = let o = own_of d opening made m (commits_event d opening made m entry.session) in of_definition is_first (d.refusal o.read_only (seen_by d opening made m o) entry.text) entry m p
  by_request (request.Starts modes) is_first entry m p = starts (is_open m entry.session) modes entry m p
  by_request request.Commits is_first entry m p = ends_own entry.session m (open_of m entry.session) refl p
  by_request request.RollsBack is_first entry m p = rolls_back (is_open m entry.session) entry.session m p
  by_request (request.OnSettings control) is_first entry m p = controls control entry.session (ready d opening made control entry.session m) (readies control entry.session m p)

  pub attempts_keep : (is_first : Bool) (entry : Entry) (m : Machine) → M m → M (attempt d opening made is_first entry m).next
  attempts_keep is_first entry m p = by_request (d.request entry.text) is_first entry m p
