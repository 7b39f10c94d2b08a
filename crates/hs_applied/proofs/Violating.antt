-- The constraint that the changed rows of a draft violate.
use Rattle.std.proofs.Common.{◌≡◌, ℕ, true, false, List, Option, Some, None, is_none, is_some, unwrap_or, [], refl, sym, ap, ◌∙◌}
use Rattle.std.specs.FinMap.{get}
use Rattle.hs_plan.specs.declared.change.Change.{Change}
use Rattle.hs_values.specs.declared.value.Value.{Value}
use Rattle.hs_changes.specs.Changes.{settings_of}
use Rattle.hs_changes.specs.Settings.{Maps}
use Rattle.hs_schema.specs.Catalogue.{Things}
use Rattle.hs_sentences.specs.declared.violation.Violation.{Violation}
use Rattle.hs_sentences.specs.Violations.{AllHold, TouchesOnly, first_violated}
use Rattle.hs_constraints.specs.Changed.{Changed, HeldBefore, first_of_all}
use Rattle.hs_draft.specs.declared.draft.Draft.{Draft}
use Rattle.hs_draft.specs.Drafted.{after, before, old_in, olds_at, touched}
use Rattle.hs_draft.proofs.Drafted.{get-with_olds, touched_are_kept}
use Rattle.hs_turns.specs.Database.{Database}
use Rattle.hs_language.specs.Outcomes.{violated_by}
use Rattle.hs_language.specs.Validity.{lets_pass, touched_by}
use Rattle.hs_applied.specs.Applied.{IsAfter}
use Rattle.hs_applied.proofs.Touching.{touched_alike, touched_set}

-- the rows of a draft with its catalogue
abbrev pub changed_in : Things → Draft → Changed
changed_in things draft = record { checks = lets_pass; things = things; touched = touched draft; before = before draft; after = after draft }

not_kept : (o : Option (Option (List Value))) → is_some o ≡ false → o ≡ None
not_kept None h = refl
not_kept (Some x) h = absurd (let no : true ≡ false = h in cc)

-- a row of a draft that wasn't touched is as it was
pub touches_only : (draft : Draft) → TouchesOnly (touched draft) (before draft) (after draft)
touches_only draft table row untouched =
    let kept : old_in (olds_at draft.olds.entries table) row ≡ None = not_kept (old_in (olds_at draft.olds.entries table) row) (sym (touched_are_kept (olds_at draft.olds.entries table) row) ∙ untouched) in
    sym (get-with_olds (olds_at draft.olds.entries table) (after draft table) row ∙ ap (λ (o : Option (Option (List Value))). unwrap_or o (get (after draft table) row)) kept)

no_violation : (o : Option Violation) → is_none o ≡ true → o ≡ None
no_violation None h = refl
no_violation (Some v) h = absurd (let no : false ≡ true = h in cc)

module _ (inserted : ℕ) (db : Database) (changes : List Change) (things : Things) (draft : Draft) (is : IsAfter inserted db changes things draft) where
  pub held_before : HeldBefore (changed_in things draft)
  held_before = (touches_only draft, held)
    where
      at_first : first_violated lets_pass db.things (λ table. []) db.rows ≡ None
      at_first = no_violation (first_violated lets_pass db.things (λ table. []) db.rows) is.held

      held : AllHold lets_pass things (before draft)
      held =
          ap (λ (t : Things). first_violated lets_pass t (λ table. []) (before draft)) (sym is.things)
          ∙ ap (λ (maps : Maps). first_violated lets_pass db.things (λ table. []) maps) (λ i table. is.before table i)
          ∙ at_first

  pub violated_is : first_of_all (changed_in things draft) ≡ violated_by inserted db changes
  violated_is =
      let settings = settings_of inserted changes in
      touched_alike lets_pass things (after draft) (touched draft) (touched_by settings) (λ table row. is.touched table row ∙ sym (touched_set settings table row))
      ∙ ap (λ (t : Things). first_violated lets_pass t (touched_by settings) (after draft)) (sym is.things)
      ∙ ap (λ (maps : Maps). first_violated lets_pass db.things (touched_by settings) maps) (λ i table. is.after table i)
