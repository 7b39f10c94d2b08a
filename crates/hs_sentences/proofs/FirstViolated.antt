-- The first violated constraint, told by the touched rows.
use Rattle.std.proofs.Common.{◌≡◌, ℕ, Bool, true, false, not, if◌then◌else◌, List, [], ◌∷◌, map, Option, Some, None, refl, ap, ap₂}
use Rattle.std.specs.FinMap.{get, empty}
use Rattle.std.specs.Option.{option_map_or, option_or}
use Rattle.hs_base.specs.declared.numbers.TableNo.{TableNo}
use Rattle.hs_plan.specs.declared.definition.Constraint.{Constraint}
use Rattle.hs_plan.specs.declared.definition.ForeignKey.{ForeignKey}
use Rattle.hs_plan.specs.declared.definition.Rule.{Rule}
use Rattle.hs_plan.specs.declared.definition.Rule.TheVariants as rule
use Rattle.hs_schema.specs.Catalogue.{Things, Text, number_of}
use Rattle.hs_changes.specs.Settings.{Maps}
use Rattle.hs_sentences.specs.declared.violation.Violation.{Violation}
use Rattle.hs_sentences.specs.declared.violation.Violation.TheVariants as is
use Rattle.hs_sentences.specs.Asking.{Test, any_row, any_of, is_one_of}
use Rattle.hs_sentences.specs.Sentences.{has_gap, is_missed}
use Rattle.hs_sentences.specs.Violations.{Checks, Touched, TouchesOnly, violated, violation, violation_by_touched, first_some, first_violated, first_violated_by_touched, AllHold, constraints_of, parents_of, touched_parents, orphans}
use Rattle.hs_sentences.proofs.Local.{rows_local, doubles_local, orphans_local}

untold : (b : Bool) (v : Violation) (rest : Option Violation) → (if b then Some v else rest) ≡ None → (b ≡ false) × (rest ≡ None)
untold true v rest h = absurd (let no : Some v ≡ None = h in cc)
untold false v rest h = (refl, h)

module _ (checks : Checks) (things : Things) (touched : Touched) (before after : Maps) (only : TouchesOnly touched before after) where
  -- the parent's rows that aren't touched are as they were
  parents_kept : (key : ForeignKey) (row : ℕ) → is_one_of (touched_parents things touched key) row ≡ false → get (parents_of things after key) row ≡ get (parents_of things before key) row
  parents_kept key row = by (number_of things key.parent)
    where
      by : (n : Option TableNo) → is_one_of (option_map_or (λ table. touched table.0) n []) row ≡ false → get (option_map_or (λ table. after table.0) n empty) row ≡ get (option_map_or (λ table. before table.0) n empty) row
      by None h = refl
      by (Some table) h = only table.0 row h

  by_rule : (table : ℕ) (name : Text) (r : Rule) →
      violated checks things before (λ test. any_row test (before table)) (λ test. any_of [] test (before table)) (λ key. any_row (orphans things before key) (before table)) table name r ≡ None
      → violated checks things after (λ test. any_row test (after table)) (λ test. any_of (touched table) test (after table)) (λ key. any_row (orphans things after key) (after table)) table name r
      ≡ violated checks things after (λ test. any_of (touched table) test (after table)) (λ test. any_of (touched table) test (after table))
      (λ key. any_of (touched_parents things touched key) (is_missed key.columns key.parent_columns (parents_of things after key) (after table)) (parents_of things before key)) table name r
  by_rule table name (rule.NotNull column) held =
      let gap : Test = has_gap (column ∷ []) in
      ap (λ b. if b then Some (is.Null name) else None) (rows_local (before table) (after table) (touched table) (only table) gap (untold _ _ _ held).0)
  by_rule table name (rule.PrimaryKey columns) held =
      let gap : Test = has_gap columns in
      let first = untold _ _ _ held in
      ap₂ (λ (b d : Bool). if b then Some (is.Null name) else (if d then Some (is.Unique name) else None))
      (rows_local (before table) (after table) (touched table) (only table) gap first.0)
      (doubles_local (before table) (after table) (touched table) (only table) columns (untold _ _ _ first.1).0)
  by_rule table name (rule.Unique columns) held =
      ap (λ b. if b then Some (is.Unique name) else None) (doubles_local (before table) (after table) (touched table) (only table) columns (untold _ _ _ held).0)
  by_rule table name (rule.Check condition) held =
      let fails : Test = λ number row. not (checks condition row) in
      ap (λ b. if b then Some (is.Check name) else None) (rows_local (before table) (after table) (touched table) (only table) fails (untold _ _ _ held).0)
  by_rule table name (rule.ForeignKey key) held = by (any_of (touched table) (orphans things after key) (after table)) refl
    where
      by : (b : Bool) → any_of (touched table) (orphans things after key) (after table) ≡ b
          → (if b then Some (is.Parent name) else (if any_row (orphans things after key) (after table) then Some (is.Child name) else None))
          ≡ (if b then Some (is.Parent name) else (if any_of (touched_parents things touched key) (is_missed key.columns key.parent_columns (parents_of things after key) (after table)) (parents_of things before key) then Some (is.Child name) else None))
      by true put = refl
      by false put =
          ap (λ d. if d then Some (is.Child name) else None)
          (orphans_local key.columns key.parent_columns (before table) (after table) (parents_of things before key) (parents_of things after key) (touched table) (touched_parents things touched key) (only table) (parents_kept key) (untold _ _ _ held).0 put)
  by_rule table name (rule.Index columns) held = refl

  by_constraints : (cs : List (ℕ × Constraint)) → first_some (map (violation checks things (λ table. []) before) cs) ≡ None
      → first_some (map (violation checks things touched after) cs) ≡ first_some (map (violation_by_touched checks things touched before after) cs)
  by_constraints [] held = refl
  by_constraints (c ∷ cs) held = by (λ rest. by_constraints cs rest) (violation checks things (λ table. []) before c) refl held
    where
      by : (first_some (map (violation checks things (λ table. []) before) cs) ≡ None → first_some (map (violation checks things touched after) cs) ≡ first_some (map (violation_by_touched checks things touched before after) cs))
          → (o : Option Violation) → violation checks things (λ table. []) before c ≡ o → first_some (o ∷ map (violation checks things (λ table. []) before) cs) ≡ None
          → first_some (map (violation checks things touched after) (c ∷ cs)) ≡ first_some (map (violation_by_touched checks things touched before after) (c ∷ cs))
      by more (Some v) here rest = absurd (let no : Some v ≡ None = rest in cc)
      by more None here rest = ap₂ (λ (first : Option Violation) (others : Option Violation). option_or first others) (by_rule c.0 c.1.name c.1.rule here) (more rest)

  pub touched_rows_tell : AllHold checks things before → first_violated checks things touched after ≡ first_violated_by_touched checks things touched before after
  touched_rows_tell held = by_constraints (constraints_of things) held
