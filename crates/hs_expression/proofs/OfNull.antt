-- Operations on NULL give NULL.
use Rattle.std.proofs.Common.{◌≡◌, ℕ, Bool, true, Option, None, Ok, refl, sym, ap}
use Rattle.std.proofs.lemmas.Bool.{true≢false}
use Rattle.hs_ast.specs.declared.expression.BinaryOperator.{BinaryOperator}
use Rattle.hs_ast.specs.declared.expression.BinaryOperator.TheVariants as o
use Rattle.hs_ast.specs.declared.expression.TrimForm.{TrimForm}
use Rattle.hs_values.specs.declared.sql_type.SqlType.{SqlType}
use Rattle.hs_values.specs.declared.sql_type.SqlType.TheVariants as t
use Rattle.hs_values.specs.declared.value.Value.{Value}
use Rattle.hs_values.specs.declared.value.Value.TheVariants as v
use Rattle.hs_values.specs.Order.{cmp_of}
use Rattle.hs_plan.specs.declared.operator.Binary.{Binary}
use Rattle.hs_plan.specs.declared.operator.Binary.TheVariants as b
use Rattle.hs_plan.specs.declared.operator.Unary.{Unary}
use Rattle.hs_plan.specs.declared.operator.Unary.TheVariants as u
use Rattle.hs_expression.specs.declared.numbers.Operands.TheVariants as operands
use Rattle.hs_expression.specs.declared.logic.Comparison.{Comparison}
use Rattle.hs_expression.specs.declared.logic.Comparison.TheVariants as comparison
use Rattle.hs_expression.specs.Cast.{cast_value}
use Rattle.hs_expression.specs.Logic.{compared, tested, holds}
use Rattle.hs_expression.specs.Numbers.{operands_of, sum_of_operands, difference_of_operands, product_of_operands, quotient_of_operands, remainder_value}
use Rattle.hs_expression.specs.Nulls.{unary_of_null, is_strict}
use Rattle.hs_expression.specs.Operators.{unary_value, operator_value, binary_value}
use Rattle.hs_expression.specs.Texts.{concatenation, like_value, trimmed_of_value, substring_value}

cast_of_null : (sql_type : SqlType) → cast_value sql_type v.Null ≡ Ok v.Null
cast_of_null t.Small = refl
cast_of_null t.Integer = refl
cast_of_null t.Big = refl
cast_of_null (t.Decimal precision scale) = refl
cast_of_null (t.Varchar most) = refl
cast_of_null t.Bool = refl
cast_of_null t.Date = refl
cast_of_null t.Stamp = refl

pub unary_null : (operator : Unary) → unary_value operator v.Null ≡ Ok (unary_of_null operator)
unary_null u.Plus = refl
unary_null u.Minus = refl
unary_null u.Not = refl
unary_null u.IsNull = refl
unary_null u.IsNotNull = refl
unary_null (u.Cast column) = cast_of_null column
unary_null u.Abs = refl
unary_null u.Upper = refl
unary_null u.Lower = refl
unary_null u.CharLength = refl
unary_null (u.Trim shape) = refl
unary_null (u.Extract part) = refl
unary_null (u.Interval sign count unit) = refl

-- ---- on the left

strict_left : (operator : BinaryOperator) (a : Value) → is_strict (b.Operator operator) ≡ true → operator_value operator v.Null a ≡ Ok v.Null
strict_left o.Or a h = absurd (true≢false (sym h))
strict_left o.And a h = absurd (true≢false (sym h))
strict_left o.Equal a h = refl
strict_left o.NotEqual a h = refl
strict_left o.Less a h = refl
strict_left o.LessOrEqual a h = refl
strict_left o.Greater a h = refl
strict_left o.GreaterOrEqual a h = refl
strict_left o.Add a h = refl
strict_left o.Subtract a h = refl
strict_left o.Concatenate a h = refl
strict_left o.Multiply a h = refl
strict_left o.Divide a h = refl

pub left_null : (operator : Binary) (a : Value) → is_strict operator ≡ true → binary_value operator v.Null a ≡ Ok v.Null
left_null (b.Operator operator) a h = strict_left operator a h
left_null b.Mod a h = refl
left_null (b.NullIf reading) a h = absurd (true≢false (sym h))
left_null (b.Like negated escape) a h = refl
left_null (b.TrimOf shape) a h = refl
left_null b.SubstringFrom a h = refl

-- ---- on the right

no_order : (a : Value) → cmp_of a v.Null ≡ None
no_order v.Null = refl
no_order a = refl

no_number : (a : Value) → operands_of a v.Null ≡ operands.Neither
no_number (v.Int n) = refl
no_number (v.Dec d) = refl
no_number a = refl

no_remainder : (a : Value) → remainder_value a v.Null ≡ Ok v.Null
no_remainder (v.Int n) = refl
no_remainder a = refl

unknown : (c : Comparison) (a : Value) → compared c a v.Null ≡ v.Null
unknown c a = ap (tested (holds c)) (no_order a)

no_text : (a : Value) → concatenation a v.Null ≡ v.Null
no_text (v.Text text) = refl
no_text a = refl

no_pattern : (negated : Bool) (escape : Option ℕ) (a : Value) → like_value negated escape a v.Null ≡ v.Null
no_pattern negated escape (v.Text text) = refl
no_pattern negated escape a = refl

no_trimmed : (shape : TrimForm) (a : Value) → trimmed_of_value shape a v.Null ≡ Ok v.Null
no_trimmed shape (v.Text text) = refl
no_trimmed shape a = refl

no_start : (a : Value) → substring_value a v.Null ≡ v.Null
no_start (v.Text text) = refl
no_start a = refl

strict_right : (operator : BinaryOperator) (a : Value) → is_strict (b.Operator operator) ≡ true → operator_value operator a v.Null ≡ Ok v.Null
strict_right o.Or a h = absurd (true≢false (sym h))
strict_right o.And a h = absurd (true≢false (sym h))
strict_right o.Equal a h = ap Ok (unknown comparison.Equal a)
strict_right o.NotEqual a h = ap Ok (unknown comparison.NotEqual a)
strict_right o.Less a h = ap Ok (unknown comparison.Less a)
strict_right o.LessOrEqual a h = ap Ok (unknown comparison.LessOrEqual a)
strict_right o.Greater a h = ap Ok (unknown comparison.Greater a)
strict_right o.GreaterOrEqual a h = ap Ok (unknown comparison.GreaterOrEqual a)
strict_right o.Add a h = ap sum_of_operands (no_number a)
strict_right o.Subtract a h = ap difference_of_operands (no_number a)
strict_right o.Concatenate a h = ap Ok (no_text a)
strict_right o.Multiply a h = ap product_of_operands (no_number a)
strict_right o.Divide a h = ap quotient_of_operands (no_number a)

pub right_null : (operator : Binary) (a : Value) → is_strict operator ≡ true → binary_value operator a v.Null ≡ Ok v.Null
right_null (b.Operator operator) a h = strict_right operator a h
right_null b.Mod a h = no_remainder a
right_null (b.NullIf reading) a h = absurd (true≢false (sym h))
right_null (b.Like negated escape) a h = ap Ok (no_pattern negated escape a)
right_null (b.TrimOf shape) a h = no_trimmed shape a
right_null b.SubstringFrom a h = ap Ok (no_start a)
