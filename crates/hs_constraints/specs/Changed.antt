-- Rows that were changed, and how they violate constraints.
use Rattle.std.specs.Prelude.{ℕ, Bool, not, map, Option}
use Rattle.hs_plan.specs.declared.definition.ForeignKey.{ForeignKey}
use Rattle.hs_plan.specs.declared.definition.Rule.{Rule}
use Rattle.hs_plan.specs.declared.expression.Expr.{Expr}
use Rattle.hs_schema.specs.Catalogue.{Things, Text, constraints_in}
use Rattle.hs_schema.specs.declared.thing.Thing.{Thing}
use Rattle.hs_changes.specs.Settings.{Maps}
use Rattle.hs_sentences.specs.declared.violation.Violation.{Violation}
use Rattle.hs_sentences.specs.Asking.{Test, any_of}
use Rattle.hs_sentences.specs.Sentences.{is_missed}
use Rattle.hs_sentences.specs.Violations as all
use Rattle.hs_sentences.specs.Violations.{Checks, Touched, TouchesOnly, AllHold, violated, violation_by_touched, first_some, first_violated_by_touched, parents_of, touched_parents}

-- the catalogue and what its CHECKs let pass, the rows of all tables before changes and after them, and the numbers of those that were put or deleted
pub record Changed : Type 0 where
  pub checks : Checks
  pub things : Things
  pub touched : Touched
  pub before : Maps
  pub after : Maps

-- a row of the table that was put passes
abbrev pub put_has : Changed → ℕ → Test → Bool
put_has changed table test = any_of (changed.touched table) test (changed.after table)

abbrev pub fails_check : Changed → Expr → Test
fails_check changed condition number row = not (changed.checks condition row)

-- a row of the parent that was changed had a key that no row of it has any more, and that a row of this table names
abbrev pub is_left : Changed → ℕ → ForeignKey → Bool
is_left changed table key =
    any_of (touched_parents changed.things changed.touched key)
    (is_missed key.columns key.parent_columns (parents_of changed.things changed.after key) (changed.after table))
    (parents_of changed.things changed.before key)

abbrev pub violation : Changed → ℕ → Text → Rule → Option Violation
violation changed table name rule = violated changed.checks changed.things changed.after (put_has changed table) (put_has changed table) (is_left changed table) table name rule

abbrev pub violation_in : Changed → Thing → Option Violation
violation_in changed thing =
    first_some (map (violation_by_touched changed.checks changed.things changed.touched changed.before changed.after) (map (λ c. (thing.table.0, c)) (constraints_in thing.part)))

abbrev pub first_violated : Changed → Option Violation
first_violated changed = first_violated_by_touched changed.checks changed.things changed.touched changed.before changed.after

-- every row that wasn't changed is as it was, and all constraints held before
abbrev pub HeldBefore : Changed → Type 0
HeldBefore changed = TouchesOnly changed.touched changed.before changed.after × AllHold changed.checks changed.things changed.before

-- the first violated constraint where all rows are looked at
abbrev pub first_of_all : Changed → Option Violation
first_of_all changed = all.first_violated changed.checks changed.things changed.touched changed.after
