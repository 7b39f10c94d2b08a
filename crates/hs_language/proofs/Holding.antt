-- Every constraint holds behind a definition that isn't refused.
use Rattle.std.proofs.Common.{◌≡◌, ℕ, Bool, true, false, List, [], ◌∷◌, map, Option, Some, None, is_none, Ok, refl, ap, ◌∙◌}
use Rattle.std.specs.Option.{option_or}
use Rattle.std.specs.Prelude.{Result, Err, if◌then◌else◌}
use Rattle.hs_plan.specs.declared.definition.Constraint.{Constraint}
use Rattle.hs_plan.specs.declared.definition.Definition.{Definition}
use Rattle.hs_plan.specs.declared.definition.Rule.{Rule}
use Rattle.hs_plan.specs.declared.definition.Rule.TheVariants as rule
use Rattle.hs_schema.specs.Catalogue.{Text, Things}
use Rattle.hs_changes.specs.Settings.{Maps}
use Rattle.hs_sentences.specs.declared.violation.Violation.{Violation}
use Rattle.hs_sentences.specs.declared.violation.Violation.TheVariants as is
use Rattle.hs_sentences.specs.Asking.{any_of, any_row}
use Rattle.hs_sentences.specs.Violations.{AllHold, Checks, Touched, constraints_of, first_some, first_violated, orphans, violated, violation}
use Rattle.hs_turns.specs.Database.{Database, defined}
use Rattle.hs_language.specs.Definitions.{judged, makes_long, put_by, still_referenced, unless_referenced, unless_violated, violated_by}
use Rattle.hs_language.specs.Validity.{all_hold, lets_pass}

-- ---- rows that were put

untold : (b : Bool) (v : Violation) (rest : Option Violation) → (if b then Some v else rest) ≡ None → rest ≡ None
untold true v rest h = absurd (let no : Some v ≡ None = h in cc)
untold false v rest h = h

first_none : (x rest : Option Violation) → option_or x rest ≡ None → (x ≡ None) × (rest ≡ None)
first_none None rest h = (refl, h)
first_none (Some v) rest h = absurd (let no : Some v ≡ None = h in cc)

-- a rule that holds whichever rows were put holds where none was
module _ (checks : Checks) (things : Things) (touched : Touched) (maps : Maps) where
  by_rule : (table : ℕ) (name : Text) (r : Rule)
      → violated checks things maps (λ test. any_row test (maps table)) (λ test. any_of (touched table) test (maps table)) (λ key. any_row (orphans things maps key) (maps table)) table name r ≡ None
      → violated checks things maps (λ test. any_row test (maps table)) (λ test. any_of [] test (maps table)) (λ key. any_row (orphans things maps key) (maps table)) table name r ≡ None
  by_rule table name (rule.NotNull column) h = h
  by_rule table name (rule.PrimaryKey columns) h = h
  by_rule table name (rule.Unique columns) h = h
  by_rule table name (rule.Check condition) h = h
  by_rule table name (rule.ForeignKey key) h = untold (any_of (touched table) (orphans things maps key) (maps table)) (is.Parent name) _ h
  by_rule table name (rule.Index columns) h = h

  by_constraints : (cs : List (ℕ × Constraint)) → first_some (map (violation checks things touched maps) cs) ≡ None → first_some (map (violation checks things (λ table. []) maps) cs) ≡ None
  by_constraints [] h = refl
  by_constraints (c ∷ cs) h =
      let parts = first_none (violation checks things touched maps c) (first_some (map (violation checks things touched maps) cs)) h in
      ap (λ o. option_or o (first_some (map (violation checks things (λ table. []) maps) cs))) (by_rule c.0 c.1.name c.1.rule parts.0) ∙ by_constraints cs parts.1

  pub holds_untouched : first_violated checks things touched maps ≡ None → AllHold checks things maps
  holds_untouched h = by_constraints (constraints_of things) h

-- ---- what isn't refused

refused : (why : Text) (definition : Definition) → ◌≡◌ {A = Result Definition Text} (Err why) (Ok definition) → ⊥
refused why definition h = cc

pub unreferenced : (db : Database) (definition : Definition) → judged db definition ≡ Ok definition → still_referenced db.things definition ≡ None
unreferenced db definition h = by (still_referenced db.things definition) h
  where
    by : (o : Option Text) → unless_referenced o db definition ≡ Ok definition → o ≡ None
    by None h = refl
    by (Some name) h = absurd (refused _ definition h)

pub unviolated : (db : Database) (definition : Definition) → judged db definition ≡ Ok definition → violated_by db definition ≡ None
unviolated db definition h = by (still_referenced db.things definition) h
  where
    at : (o : Option Violation) → unless_violated o (makes_long db definition) definition ≡ Ok definition → o ≡ None
    at None h = refl
    at (Some violation) h = absurd (refused _ definition h)

    by : (o : Option Text) → unless_referenced o db definition ≡ Ok definition → violated_by db definition ≡ None
    by None h = at (violated_by db definition) h
    by (Some name) h = absurd (refused _ definition h)

pub hold_after : (db : Database) (definition : Definition) → judged db definition ≡ Ok definition → all_hold (defined definition db) ≡ true
hold_after db definition h =
    let behind : Database = defined definition db in
    ap is_none (holds_untouched lets_pass behind.things (put_by db.things definition db.rows) behind.rows (unviolated db definition h))
