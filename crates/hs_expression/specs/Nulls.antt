-- What operations give of NULL.
use Rattle.std.specs.Prelude.{Bool, true, false}
use Rattle.hs_ast.specs.declared.expression.BinaryOperator.TheVariants as o
use Rattle.hs_values.specs.declared.value.Value.{Value}
use Rattle.hs_values.specs.declared.value.Value.TheVariants as v
use Rattle.hs_plan.specs.declared.operator.Binary.{Binary}
use Rattle.hs_plan.specs.declared.operator.Binary.TheVariants as b
use Rattle.hs_plan.specs.declared.operator.Unary.{Unary}
use Rattle.hs_plan.specs.declared.operator.Unary.TheVariants as u

-- NULL, but for the two predicates that ask for it
abbrev pub unary_of_null : Unary → Value
unary_of_null u.IsNull = v.Bool true
unary_of_null u.IsNotNull = v.Bool false
unary_of_null _ = v.Null

-- whether an operation on two operands gives NULL where one of them is NULL
abbrev pub is_strict : Binary → Bool
is_strict (b.Operator o.And) = false
is_strict (b.Operator o.Or) = false
is_strict (b.NullIf reading) = false
is_strict _ = true
