-- Operators that have a value for all operands, and no fault.
use Rattle.std.specs.Prelude.{Bool, true, false, ◌&&◌, Option, None, Some}
use Rattle.hs_ast.specs.declared.expression.BinaryOperator.{BinaryOperator}
use Rattle.hs_ast.specs.declared.expression.BinaryOperator.TheVariants as o
use Rattle.hs_plan.specs.declared.operator.Binary.{Binary}
use Rattle.hs_plan.specs.declared.operator.Binary.TheVariants as b
use Rattle.hs_plan.specs.declared.operator.Ternary.{Ternary}
use Rattle.hs_plan.specs.declared.operator.Ternary.TheVariants as three
use Rattle.hs_plan.specs.declared.operator.Unary.{Unary}
use Rattle.hs_plan.specs.declared.operator.Unary.TheVariants as u
use Rattle.hs_plan.specs.declared.reading.Reading.{Reading}
use Rattle.hs_plan.specs.declared.reading.Reading.TheVariants as reading

-- a literal text can be read as what it is compared as
abbrev pub is_readable : Option Reading → Bool
is_readable None = true
is_readable (Some (reading.Day day)) = true
is_readable (Some (reading.Micros micros)) = true
is_readable (Some reading.BadDate) = false
is_readable (Some reading.BadTimestamp) = false

abbrev pub one_is_sure : Unary → Bool
one_is_sure u.Plus = true
one_is_sure u.Not = true
one_is_sure u.IsNull = true
one_is_sure u.IsNotNull = true
one_is_sure u.Upper = true
one_is_sure u.Lower = true
one_is_sure u.CharLength = true
one_is_sure (u.Trim shape) = true
one_is_sure _ = false

-- it isn't one of the four that reckon with numbers
abbrev pub is_no_reckoning : BinaryOperator → Bool
is_no_reckoning o.Add = false
is_no_reckoning o.Subtract = false
is_no_reckoning o.Multiply = false
is_no_reckoning o.Divide = false
is_no_reckoning _ = true

abbrev pub two_are_sure : Binary → Bool
two_are_sure (b.Operator operator) = is_no_reckoning operator
two_are_sure (b.NullIf reading) = is_readable reading
two_are_sure (b.Like negated escape) = true
two_are_sure b.SubstringFrom = true
two_are_sure _ = false

abbrev pub three_are_sure : Ternary → Bool
three_are_sure (three.Between negated low high) = is_readable low && is_readable high
three_are_sure three.SubstringFor = true
