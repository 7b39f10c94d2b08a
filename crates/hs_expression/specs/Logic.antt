-- Three-valued logic and comparison. The third truth value, unknown, is NULL, as which a value that is no truth value counts too.
use Rattle.std.specs.Prelude.{Bool, true, false, not, Option, Some, None, if◌then◌else◌}
use Rattle.std.specs.Ordering.{is_eq, is_ne, is_lt, is_le, is_gt, is_ge}
use Rattle.std.specs.declared.cmp.Ordering.{Ordering}
use Rattle.hs_values.specs.declared.value.Value.{Value}
use Rattle.hs_values.specs.declared.value.Value.TheVariants as v
use Rattle.hs_values.specs.Order.{cmp_of}
use Rattle.hs_expression.specs.declared.logic.Comparison.{Comparison}
use Rattle.hs_expression.specs.declared.logic.Comparison.TheVariants as comparison

abbrev pub is_null : Value → Bool
is_null v.Null = true
is_null _ = false

-- whether a value is TRUE
abbrev pub is_true : Value → Bool
is_true (v.Bool b) = b
is_true _ = false

abbrev pub negation : Value → Value
negation (v.Bool b) = v.Bool (not b)
negation _ = v.Null

-- NOT, where it is written
abbrev pub negated_if : Bool → Value → Value
negated_if negated a = if negated then negation a else a

-- FALSE where one of both is, TRUE where both are, else unknown
abbrev pub conjunction : Value → Value → Value
conjunction (v.Bool false) b = v.Bool false
conjunction a (v.Bool false) = v.Bool false
conjunction (v.Bool true) (v.Bool true) = v.Bool true
conjunction _ _ = v.Null

-- TRUE where one of both is, FALSE where both are, else unknown
abbrev pub disjunction : Value → Value → Value
disjunction (v.Bool true) b = v.Bool true
disjunction a (v.Bool true) = v.Bool true
disjunction (v.Bool false) (v.Bool false) = v.Bool false
disjunction _ _ = v.Null

-- what a comparison asks of an order
abbrev pub holds : Comparison → Ordering → Bool
holds comparison.Equal = is_eq
holds comparison.NotEqual = is_ne
holds comparison.Less = is_lt
holds comparison.LessOrEqual = is_le
holds comparison.Greater = is_gt
holds comparison.GreaterOrEqual = is_ge

abbrev pub tested : (Ordering → Bool) → Option Ordering → Value
tested test None = v.Null
tested test (Some order) = v.Bool (test order)

-- whether a comparison holds of two values: unknown where one is NULL
abbrev pub compared : Comparison → Value → Value → Value
compared c a b = tested (holds c) (cmp_of a b)
