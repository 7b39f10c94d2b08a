-- Rows behind the changes of a statement, and the first constraint that these violate.
use Rattle.std.proofs.Common.{◌≡◌, ℕ, ◌+◌, ◌≤◌, Bool, true, false, ◌||◌, List, [], ◌++◌, length, take, Option, Some, None, is_none, refl, sym, ap, ◌∙◌, arith}
use Rattle.std.proofs.Math.Seq.{take-length}
use Rattle.std.proofs.lemmas.List.{take-append-le}
use Rattle.hs_applied.specs.Applied.{IsAfter}
use Rattle.hs_changes.specs.Changes.{after_changes, count_all_inserted, settings_of}
use Rattle.hs_changes.specs.Settings.{Maps, is_set}
use Rattle.hs_changes.proofs.Applied.{after_changes-append}
use Rattle.hs_turns.specs.Database.{Database, view}
use Rattle.hs_draft.specs.Drafted.{before, touched}
use Rattle.hs_language.specs.Outcomes.{violated_by}
use Rattle.hs_language.specs.Validity.{all_hold, lets_pass}
use Rattle.hs_plan.specs.declared.change.Change.{Change}
use Rattle.hs_schema.specs.Catalogue.{Things}
use Rattle.hs_sentences.specs.declared.violation.Violation.{Violation}
use Rattle.hs_sentences.specs.Asking.{is_one_of}
use Rattle.hs_sentences.specs.Violations.{first_violated}
use Rattle.hs_seated.specs.declared.seated.Seated.{Seated}
use Rattle.hs_seated.specs.Seated.{IsSeated, Touches}

-- ---- no changes

no_violation : (o : Option Violation) → is_none o ≡ true → o ≡ None
no_violation None h = refl
no_violation (Some v) h = absurd (let no : false ≡ true = h in cc)

pub none_violated : (inserted : ℕ) (db : Database) → all_hold db ≡ true → None ≡ violated_by inserted db []
none_violated inserted db held = sym (no_violation (first_violated lets_pass db.things (λ table. []) db.rows) held)

-- ---- changes that are made

or_nothing : (b : Bool) → (b || false) ≡ b
or_nothing true = refl
or_nothing false = refl

-- Rows that counted as those before the changes of a statement, and the rows with these on them.
pub is_after : (db : Database) (behind changes : List Change) (things : Things) (old new : Seated) → db.things ≡ things → all_hold (view db behind) ≡ true
    → IsSeated db.rows behind old → ((table : ℕ) → before old.rows.draft table ≡ after_changes 0 db.rows behind table) → ((table : ℕ) → touched old.rows.draft table ≡ [])
    → IsSeated db.rows (behind ++ changes) new → Touches old.inserted changes old.rows new.rows
    → IsAfter (count_all_inserted behind) (view db behind) changes things new.rows.draft
is_after db behind changes things old new same held at was none seated touches = record {
  things = same;
  held = held;
  before = λ table. touches.before table ∙ was table;
  after = λ table.
      let its : 0 + count_all_inserted behind ≡ count_all_inserted behind = omega arith in
      seated.rows.draft table
      ∙ ap (λ (m : Maps). m table) (after_changes-append 0 db.rows behind changes ∙ ap (λ n. after_changes n (after_changes 0 db.rows behind) changes) its);
  touched = λ table row.
      touches.touched table row
      ∙ ap (λ (l : List ℕ). is_set table row (settings_of old.inserted changes) || is_one_of l row) (none table)
      ∙ or_nothing (is_set table row (settings_of old.inserted changes))
      ∙ ap (λ n. is_set table row (settings_of n changes)) at.inserted;
}

-- ---- changes that are taken back

pub front_of : (behind changes : List Change) (len : ℕ) → len ≡ length behind → take len (behind ++ changes) ≡ behind
front_of behind changes len is =
    let within : len ≤ length behind = omega (arith, is) in
    take-append-le len behind changes within ∙ ap (λ n. take n behind) is ∙ take-length behind
