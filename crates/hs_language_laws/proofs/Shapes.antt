-- What a writing statement comes to, by its changes: it is refused and touches tables alone, it is refused behind its changes, or
-- it has them.
use Rattle.std.proofs.Common.{◌≡◌, ℕ, Bool, true, false, List, [], Option, None, Some, Result, Ok, Err, refl}
use Rattle.std.specs.List.{list_any}
use Rattle.hs_plan.specs.declared.change.Change.{Change}
use Rattle.hs_plan.specs.declared.plan.Plan.{Plan}
use Rattle.hs_values.specs.declared.fault.EvalFault.{EvalFault}
use Rattle.hs_schema.specs.Catalogue.{Text}
use Rattle.hs_sentences.specs.declared.violation.Violation.{Violation}
use Rattle.hs_turns.specs.Database.{Database}
use Rattle.hs_turns.specs.Language.{Outcome}
use Rattle.hs_language.specs.Outcomes.{around, changed, kept_unless_long, kept_unless_violated, of_changes, of_tables, own_count, refused, violated_by}
use Rattle.hs_language.specs.Reading.{Reading}
use Rattle.hs_language.specs.Validity.{puts_long}
use Rattle.hs_language.specs.Words.{count_words, fault_words, long_row_words, violation_words}

module _ (P : Outcome → Type 0) (r : Reading) (inserted : ℕ) (db : Database) (p : Plan) where
  -- it has these changes
  abbrev pub accepted : ℕ → List Change → Outcome
  accepted count changes = record { rows = []; reply = count_words count; changes = changes; foot = of_changes r db p changes }

  pub shape : (given : Result (List Change) EvalFault)
      → ((why : Text) → P (refused why (of_tables r db p)))
      → ((changes : List Change) → given ≡ Ok changes → (why : Text) → P (refused why (of_changes r db p changes)))
      → ((changes : List Change) → given ≡ Ok changes → violated_by inserted db changes ≡ None → list_any (puts_long db.things) changes ≡ false → P (accepted (own_count (around db) p changes) changes))
      → P (changed r inserted db p given)
  shape (Err fault) at_fault behind with = at_fault (fault_words fault)
  shape (Ok changes) at_fault behind with = by (violated_by inserted db changes) refl
    where
      kept : violated_by inserted db changes ≡ None → (long : Bool) → list_any (puts_long db.things) changes ≡ long → P (kept_unless_long long (own_count (around db) p changes) changes (of_changes r db p changes))
      kept holds true is = behind changes refl long_row_words
      kept holds false is = with changes refl holds is

      by : (violation : Option Violation) → violated_by inserted db changes ≡ violation → P (kept_unless_violated violation db.things (own_count (around db) p changes) changes (of_changes r db p changes))
      by (Some violation) is = behind changes refl (violation_words violation)
      by None is = kept is (list_any (puts_long db.things) changes) refl
