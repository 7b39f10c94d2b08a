-- Whether two operators are the same.
use Rattle.std.specs.Prelude.{Bool, true, false, ◌==◌, ◌&&◌}
use Rattle.hs_ast.specs.declared.expression.BinaryOperator.{BinaryOperator}
use Rattle.hs_ast.specs.declared.expression.BinaryOperator.TheVariants as o
use Rattle.hs_ast.specs.declared.expression.DateField.{DateField}
use Rattle.hs_ast.specs.declared.expression.DateField.TheVariants as field
use Rattle.hs_ast.specs.declared.expression.IntervalUnit.{IntervalUnit}
use Rattle.hs_ast.specs.declared.expression.IntervalUnit.TheVariants as unit
use Rattle.hs_ast.specs.declared.expression.Sign.{Sign}
use Rattle.hs_ast.specs.declared.expression.Sign.TheVariants as sign
use Rattle.hs_ast.specs.declared.expression.TrimForm.{TrimForm}
use Rattle.hs_ast.specs.declared.expression.TrimForm.TheVariants as trim
use Rattle.hs_plan.specs.declared.operator.Binary.{Binary}
use Rattle.hs_plan.specs.declared.operator.Binary.TheVariants as b
use Rattle.hs_plan.specs.declared.operator.Ternary.{Ternary}
use Rattle.hs_plan.specs.declared.operator.Ternary.TheVariants as three
use Rattle.hs_plan.specs.declared.operator.Unary.{Unary}
use Rattle.hs_plan.specs.declared.operator.Unary.TheVariants as u
use Rattle.hs_alike.specs.Parts.{same_option, same_reading, same_truth, same_type}

-- ---- words and symbols

abbrev pub same_symbol : BinaryOperator → BinaryOperator → Bool
same_symbol o.Or o.Or = true
same_symbol o.And o.And = true
same_symbol o.Equal o.Equal = true
same_symbol o.NotEqual o.NotEqual = true
same_symbol o.Less o.Less = true
same_symbol o.LessOrEqual o.LessOrEqual = true
same_symbol o.Greater o.Greater = true
same_symbol o.GreaterOrEqual o.GreaterOrEqual = true
same_symbol o.Add o.Add = true
same_symbol o.Subtract o.Subtract = true
same_symbol o.Concatenate o.Concatenate = true
same_symbol o.Multiply o.Multiply = true
same_symbol o.Divide o.Divide = true
same_symbol _ _ = false

abbrev pub same_sign : Sign → Sign → Bool
same_sign sign.Plus sign.Plus = true
same_sign sign.Minus sign.Minus = true
same_sign _ _ = false

abbrev pub same_unit : IntervalUnit → IntervalUnit → Bool
same_unit unit.Day unit.Day = true
same_unit unit.Month unit.Month = true
same_unit _ _ = false

abbrev pub same_field : DateField → DateField → Bool
same_field field.Year field.Year = true
same_field field.Month field.Month = true
same_field field.Day field.Day = true
same_field field.Hour field.Hour = true
same_field field.Minute field.Minute = true
same_field field.Second field.Second = true
same_field _ _ = false

abbrev pub same_form : TrimForm → TrimForm → Bool
same_form trim.Bare trim.Bare = true
same_form trim.From trim.From = true
same_form trim.Leading trim.Leading = true
same_form trim.Trailing trim.Trailing = true
same_form trim.Both trim.Both = true
same_form _ _ = false

-- ---- by the number of their operands

abbrev pub same_unary : Unary → Unary → Bool
same_unary u.Plus u.Plus = true
same_unary u.Minus u.Minus = true
same_unary u.Not u.Not = true
same_unary u.IsNull u.IsNull = true
same_unary u.IsNotNull u.IsNotNull = true
same_unary (u.Cast sql_type) (u.Cast other) = same_type sql_type other
same_unary u.Abs u.Abs = true
same_unary u.Upper u.Upper = true
same_unary u.Lower u.Lower = true
same_unary u.CharLength u.CharLength = true
same_unary (u.Trim form) (u.Trim other) = same_form form other
same_unary (u.Extract field) (u.Extract other) = same_field field other
same_unary (u.Interval sign count unit) (u.Interval other_sign other other_unit) = same_sign sign other_sign && ((count == other) && same_unit unit other_unit)
same_unary _ _ = false

abbrev pub same_binary : Binary → Binary → Bool
same_binary (b.Operator operator) (b.Operator other) = same_symbol operator other
same_binary b.Mod b.Mod = true
same_binary (b.NullIf reading) (b.NullIf other) = same_option same_reading reading other
same_binary (b.Like negated escape) (b.Like other_negated other) = same_truth negated other_negated && same_option ◌==◌ escape other
same_binary (b.TrimOf form) (b.TrimOf other) = same_form form other
same_binary b.SubstringFrom b.SubstringFrom = true
same_binary _ _ = false

abbrev pub same_ternary : Ternary → Ternary → Bool
same_ternary (three.Between negated low high) (three.Between other_negated other_low other_high) = same_truth negated other_negated && (same_option same_reading low other_low && same_option same_reading high other_high)
same_ternary three.SubstringFor three.SubstringFor = true
same_ternary _ _ = false
