-- Statements alone are what one session's attempts are.
use Rattle.std.proofs.Common.{◌≡◌, ℕ, ◌==◌, not, Bool, true, false, cond, List, [], ◌∷◌, length, drop, refl, ap, ap₂, ◌∙◌, eq-eqb, le_refl}
use Rattle.std.proofs.lemmas.List.{drop_all}
use Rattle.hs_claims.specs.declared.footprint.Footprint.{Footprint}
use Rattle.hs_claims.specs.declared.model.ControlKind.{ControlKind}
use Rattle.hs_claims.specs.Wants.{reads_start_of}
use Rattle.hs_changes.specs.Changes.{count_all_inserted}
use Rattle.hs_turns.specs.Database.{Database, view}
use Rattle.hs_turns.specs.Language.{Language}
use Rattle.hs_turns.specs.Transactions.{Statement, replay}
use Rattle.hs_turns.specs.Transactions.Statement.{Data, OnSession}
use Rattle.hs_turns.specs.Histories.{Open, Commit, now, state, base, newer, is_snap, is_free, no_conflict}
use Rattle.hs_turns.specs.Events.{Event, fresh, finish, stays_open, commit, goes_on, judged, said, says, step}
use Rattle.hs_turns.specs.Alone.{asks, attempts, only}
use Rattle.hs_turns.proofs.Sound.{state_now}

module _ (lang : Language) (opening : Database) (kind : ControlKind) (commits : List Commit) where
  newer_none : (b : Bool) (n : ℕ) → n ≡ length commits → cond b (drop n commits) [] ≡ []
  newer_none true n is = ap (λ (k : ℕ). drop k commits) is ∙ drop_all (length commits) commits (le_refl (length commits))
  newer_none false n is = refl

  base_now : (b : Bool) (n : ℕ) → n ≡ length commits → cond b (state opening commits n) (now opening commits) ≡ now opening commits
  base_now true n is = ap (state opening commits) is ∙ state_now opening commits
  base_now false n is = refl

  stays_alone : (o p : Open) (who : ℕ) → (o.session == who) ≡ true → stays_open p who (only kind commits o) ≡ only kind commits p
  stays_alone o p who mine = ap (λ (b : Bool). record (only kind commits o) { open_ = cond b (p ∷ []) (o ∷ p ∷ []) }) mine

  goes_on_alone : (o p : Open) (who : ℕ) → (o.session == who) ≡ true → p.auto ≡ false → goes_on opening o p who (only kind commits o) ≡ only kind commits p
  goes_on_alone o p who mine auto =
      ap (λ (b : Bool). cond b (commit opening p who (only kind commits o) (finish false o who (only kind commits o))) (stays_open p who (only kind commits o))) auto
      ∙ stays_alone o p who mine

  says_alone : (s : Statement) (o : Open) (who : ℕ) → (o.session == who) ≡ true → o.auto ≡ false → o.start ≡ length commits → says lang opening false s o who (only kind commits o) ≡ only kind commits (said lang (now opening commits) s o)
  says_alone (Data text) o who mine auto is =
      let foot : Database → Footprint = λ d. (lang.outcome o.read_only (count_all_inserted o.trace.changes) (view d o.trace.changes) text).foot in
      let db = base kind opening commits o in
      ap (λ (b : Bool). judged (is_free kind o (foot db) (cond (not b) (o ∷ []) [])) (no_conflict kind o (foot db) (newer commits o)) false opening o (said lang db (Data text) o) who (only kind commits o)) mine
      ∙ ap₂ (λ (ks : List Commit) (d : Database). judged true (no_conflict kind o (foot d) ks) false opening o (said lang d (Data text) o) who (only kind commits o)) (newer_none (is_snap o.level) o.start is) (base_now (reads_start_of kind o.level o.read_only) o.start is)
      ∙ goes_on_alone o (said lang (now opening commits) (Data text) o) who mine auto
  says_alone (OnSession c) o who mine auto is =
      ap (λ (d : Database). stays_open (said lang d (OnSession c) o) who (only kind commits o)) (base_now (reads_start_of kind o.level o.read_only) o.start is)
      ∙ stays_alone o (said lang (now opening commits) (OnSession c) o) who mine

  step_alone : (e : Event) (s : Statement) (o : Open) → o.session ≡ e.session → o.auto ≡ false → o.start ≡ length commits → step lang opening (asks e s) (only kind commits o) ≡ only kind commits (said lang (now opening commits) s o)
  step_alone e s o same auto is =
      let mine : (o.session == e.session) ≡ true = eq-eqb o.session e.session same in
      ap (λ (b : Bool). says lang opening false s (cond b o (fresh kind (asks e s) (length commits))) e.session (only kind commits o)) mine
      ∙ says_alone s o e.session mine auto is

  pub alone_is : (e : Event) → e.auto ≡ false → (ss : List Statement)
      → attempts lang opening e ss (only kind commits (fresh kind e (length commits))) ≡ only kind commits (record (fresh kind e (length commits)) { statements = ss; trace = replay lang e.read_only (now opening commits) ss })
  alone_is e auto [] = refl
  alone_is e auto (s ∷ earlier) =
      ap (step lang opening (asks e s)) (alone_is e auto earlier)
      ∙ step_alone e s (record (fresh kind e (length commits)) { statements = earlier; trace = replay lang e.read_only (now opening commits) earlier }) refl auto refl
