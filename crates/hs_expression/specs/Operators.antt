-- What operators, predicates and functions give, by the number of their operands.
use Rattle.std.specs.Prelude.{Bool, not, Option, if◌then◌else◌, Ok}
use Rattle.hs_ast.specs.declared.expression.BinaryOperator.{BinaryOperator}
use Rattle.hs_ast.specs.declared.expression.BinaryOperator.TheVariants as o
use Rattle.hs_values.specs.declared.value.Value.{Value}
use Rattle.hs_values.specs.declared.value.Value.TheVariants as v
use Rattle.hs_values.specs.Outcome.{◌>>=◌}
use Rattle.hs_plan.specs.declared.operator.Binary.{Binary}
use Rattle.hs_plan.specs.declared.operator.Binary.TheVariants as b
use Rattle.hs_plan.specs.declared.operator.Ternary.{Ternary}
use Rattle.hs_plan.specs.declared.operator.Ternary.TheVariants as three
use Rattle.hs_plan.specs.declared.operator.Unary.{Unary}
use Rattle.hs_plan.specs.declared.operator.Unary.TheVariants as u
use Rattle.hs_plan.specs.declared.reading.Reading.{Reading}
use Rattle.hs_expression.specs.Cast.{cast_value}
use Rattle.hs_expression.specs.Kinds.{compared_as}
use Rattle.hs_expression.specs.declared.logic.Comparison.{Comparison}
use Rattle.hs_expression.specs.declared.logic.Comparison.TheVariants as comparison
use Rattle.hs_expression.specs.Logic.{is_null, is_true, negation, negated_if, conjunction, disjunction, compared}
use Rattle.hs_expression.specs.Moments.{extracted_value, moved_value}
use Rattle.hs_expression.specs.Numbers.{Outcome, sum_value, difference_value, product_value, quotient_value, remainder_value, plus_value, minus_value, abs_value}
use Rattle.hs_expression.specs.Texts.{upper_value, lower_value, length_value, concatenation, trimmed_value, trimmed_of_value, like_value, substring_value, substring_for_value}

abbrev pub unary_value : Unary → Value → Outcome
unary_value u.Plus a = Ok (plus_value a)
unary_value u.Minus a = minus_value a
unary_value u.Not a = Ok (negation a)
unary_value u.IsNull a = Ok (v.Bool (is_null a))
unary_value u.IsNotNull a = Ok (v.Bool (not (is_null a)))
unary_value (u.Cast column) a = cast_value column a
unary_value u.Abs a = abs_value a
unary_value u.Upper a = Ok (upper_value a)
unary_value u.Lower a = Ok (lower_value a)
unary_value u.CharLength a = Ok (length_value a)
unary_value (u.Trim shape) a = Ok (trimmed_value shape a)
unary_value (u.Extract part) a = extracted_value part a
unary_value (u.Interval sign count unit) a = moved_value sign count unit a

abbrev pub operator_value : BinaryOperator → Value → Value → Outcome
operator_value o.Or a c = Ok (disjunction a c)
operator_value o.And a c = Ok (conjunction a c)
operator_value o.Equal a c = Ok (compared comparison.Equal a c)
operator_value o.NotEqual a c = Ok (compared comparison.NotEqual a c)
operator_value o.Less a c = Ok (compared comparison.Less a c)
operator_value o.LessOrEqual a c = Ok (compared comparison.LessOrEqual a c)
operator_value o.Greater a c = Ok (compared comparison.Greater a c)
operator_value o.GreaterOrEqual a c = Ok (compared comparison.GreaterOrEqual a c)
operator_value o.Add a c = sum_value a c
operator_value o.Subtract a c = difference_value a c
operator_value o.Concatenate a c = Ok (concatenation a c)
operator_value o.Multiply a c = product_value a c
operator_value o.Divide a c = quotient_value a c

-- a comparison of a value, which may be read as a date or a timestamp, with another
abbrev pub compared_with : Comparison → Option Reading → Value → Value → Outcome
compared_with c reading a other = compared_as reading a >>= λ read. Ok (compared c read other)

-- NULL where both are equal, else the first
abbrev pub null_if : Option Reading → Value → Value → Outcome
null_if reading a c = compared_with comparison.Equal reading a c >>= λ equal. Ok (if is_true equal then v.Null else a)

abbrev pub binary_value : Binary → Value → Value → Outcome
binary_value (b.Operator operator) a c = operator_value operator a c
binary_value b.Mod a c = remainder_value a c
binary_value (b.NullIf reading) a c = null_if reading a c
binary_value (b.Like negated escape) a c = Ok (like_value negated escape a c)
binary_value (b.TrimOf shape) a c = trimmed_of_value shape a c
binary_value b.SubstringFrom a c = Ok (substring_value a c)

-- whether a value is at least its least one, whether it is at most its greatest, and whether it is equal to one of a list
abbrev pub least_test : Option Reading → Value → Value → Outcome
least_test = compared_with comparison.GreaterOrEqual

abbrev pub greatest_test : Option Reading → Value → Value → Outcome
greatest_test = compared_with comparison.LessOrEqual

abbrev pub equal_test : Option Reading → Value → Value → Outcome
equal_test = compared_with comparison.Equal

-- both the first tests, or NOT of that
abbrev pub between_value : Bool → Value → Value → Value
between_value negated above below = negated_if negated (conjunction above below)

-- a BETWEEN low AND high: a >= low AND a <= high, or NOT of that
abbrev pub ternary_value : Ternary → Value → Value → Value → Outcome
ternary_value (three.Between negated low_reading high_reading) a low high =
    least_test low_reading a low >>= λ x. greatest_test high_reading a high >>= λ y. Ok (between_value negated x y)
ternary_value three.SubstringFor a start count = Ok (substring_for_value a start count)
