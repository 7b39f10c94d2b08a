-- A condition for tests: two columns are equal, and a truth value on the left is a fault.
use Rattle.std.specs.Prelude.{ℕ, true, false, List, Option, Some, None, Result, Ok, Err, slice_get}
use Rattle.std.specs.Ordering.{is_eq}
use Rattle.std.specs.declared.cmp.Ordering.{Ordering}
use Rattle.hs_values.specs.declared.fault.EvalFault.{EvalFault}
use Rattle.hs_values.specs.declared.fault.EvalFault.TheVariants as fault
use Rattle.hs_values.specs.declared.value.Value.{Value}
use Rattle.hs_values.specs.declared.value.Value.TheVariants as v
use Rattle.hs_values.specs.Order.{cmp_of}

abbrev answer_of : Option Ordering → Value
answer_of None = v.Null
answer_of (Some order) = v.Bool (is_eq order)

abbrev pub equality : Value → Value → Result Value EvalFault
equality (v.Bool true) b = Err fault.Range
equality (v.Bool false) b = Err fault.DivisionByZero
equality a b = Ok (answer_of (cmp_of a b))

abbrev of_both : Option Value → Option Value → Result Value EvalFault
of_both (Some a) (Some b) = equality a b
of_both _ _ = Ok v.Null

-- the columns of a row, by their places
abbrev pub are_equal : ℕ → ℕ → List Value → Result Value EvalFault
are_equal left right row = of_both (slice_get row left) (slice_get row right)
