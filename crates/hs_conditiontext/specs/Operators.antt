-- How operators, predicates and functions are written: what stands in front of their operands, between them and behind them.
use Rattle.std.specs.Prelude.{ℕ, Bool, true, false, List, ◌++◌, codes, encode_utf8, Option, None, Some}
use Rattle.std.specs.Fmt.{decimal}
use Rattle.hs_ast.specs.declared.expression.BinaryOperator.{BinaryOperator}
use Rattle.hs_ast.specs.declared.expression.BinaryOperator.TheVariants as o
use Rattle.hs_ast.specs.declared.expression.DateField.{DateField}
use Rattle.hs_ast.specs.declared.expression.DateField.TheVariants as field
use Rattle.hs_ast.specs.declared.expression.IntervalUnit.{IntervalUnit}
use Rattle.hs_ast.specs.declared.expression.IntervalUnit.TheVariants as unit
use Rattle.hs_ast.specs.declared.expression.Sign.{Sign}
use Rattle.hs_ast.specs.declared.expression.Sign.TheVariants as sign
use Rattle.hs_ast.specs.declared.expression.TrimForm.{TrimForm}
use Rattle.hs_ast.specs.declared.expression.TrimForm.TheVariants as trim
use Rattle.hs_plan.specs.declared.operator.Binary.{Binary}
use Rattle.hs_plan.specs.declared.operator.Binary.TheVariants as b
use Rattle.hs_plan.specs.declared.operator.Ternary.{Ternary}
use Rattle.hs_plan.specs.declared.operator.Ternary.TheVariants as three
use Rattle.hs_plan.specs.declared.operator.Unary.{Unary}
use Rattle.hs_plan.specs.declared.operator.Unary.TheVariants as u
use Rattle.hs_valuetext.specs.Texts.{chars_text}
use Rattle.hs_valuetext.specs.Types.{type_text}

-- ---- words and symbols

-- between two operands, with its spaces
abbrev pub symbol_text : BinaryOperator → List ℕ
symbol_text o.Or = codes " OR "
symbol_text o.And = codes " AND "
symbol_text o.Equal = codes " = "
symbol_text o.NotEqual = codes " <> "
symbol_text o.Less = codes " < "
symbol_text o.LessOrEqual = codes " <= "
symbol_text o.Greater = codes " > "
symbol_text o.GreaterOrEqual = codes " >= "
symbol_text o.Add = codes " + "
symbol_text o.Subtract = codes " - "
symbol_text o.Concatenate = codes " || "
symbol_text o.Multiply = codes " * "
symbol_text o.Divide = codes " / "

abbrev pub sign_text : Sign → List ℕ
sign_text sign.Plus = codes " + "
sign_text sign.Minus = codes " - "

abbrev pub unit_text : IntervalUnit → List ℕ
unit_text unit.Day = codes "DAY"
unit_text unit.Month = codes "MONTH"

-- the digits of an interval as those of a whole number
abbrev pub interval_text : Sign → ℕ → IntervalUnit → List ℕ
interval_text sign count unit = sign_text sign ++ (codes "INTERVAL '" ++ (decimal count ++ (codes "' " ++ unit_text unit)))

abbrev pub field_text : DateField → List ℕ
field_text field.Year = codes "YEAR"
field_text field.Month = codes "MONTH"
field_text field.Day = codes "DAY"
field_text field.Hour = codes "HOUR"
field_text field.Minute = codes "MINUTE"
field_text field.Second = codes "SECOND"

-- in front of a text that is trimmed of spaces
abbrev pub trimmed_text : TrimForm → List ℕ
trimmed_text trim.Bare = codes "TRIM("
trimmed_text trim.From = codes "TRIM(FROM "
trimmed_text trim.Leading = codes "TRIM(LEADING FROM "
trimmed_text trim.Trailing = codes "TRIM(TRAILING FROM "
trimmed_text trim.Both = codes "TRIM(BOTH FROM "

-- in front of a character that is trimmed off, behind which FROM stands
abbrev pub trimming_text : TrimForm → List ℕ
trimming_text trim.Bare = codes "TRIM("
trimming_text trim.From = codes "TRIM("
trimming_text trim.Leading = codes "TRIM(LEADING "
trimming_text trim.Trailing = codes "TRIM(TRAILING "
trimming_text trim.Both = codes "TRIM(BOTH "

abbrev pub in_text : Bool → List ℕ
in_text true = codes " NOT IN ("
in_text false = codes " IN ("

abbrev pub between_text : Bool → List ℕ
between_text true = codes " NOT BETWEEN "
between_text false = codes " BETWEEN "

abbrev pub like_text : Bool → List ℕ
like_text true = codes " NOT LIKE "
like_text false = codes " LIKE "

-- the escape character as a text literal
abbrev pub escape_text : Option ℕ → List ℕ
escape_text None = codes ")"
escape_text (Some c) = codes " ESCAPE " ++ (chars_text (encode_utf8 c) ++ codes ")")

-- DATE or TIMESTAMP, before a text that is none
abbrev pub moment_text : Bool → List ℕ
moment_text true = codes "TIMESTAMP "
moment_text false = codes "DATE "

-- ---- with one operand

abbrev pub before_one : Unary → List ℕ
before_one u.Plus = codes "(+ "
before_one u.Minus = codes "(- "
before_one u.Not = codes "(NOT "
before_one u.IsNull = codes "("
before_one u.IsNotNull = codes "("
before_one (u.Cast sql_type) = codes "CAST("
before_one u.Abs = codes "ABS("
before_one u.Upper = codes "UPPER("
before_one u.Lower = codes "LOWER("
before_one u.CharLength = codes "CHAR_LENGTH("
before_one (u.Trim shape) = trimmed_text shape
before_one (u.Extract field) = codes "EXTRACT(" ++ (field_text field ++ codes " FROM ")
before_one (u.Interval sign count unit) = codes "("

abbrev pub behind_one : Unary → List ℕ
behind_one u.IsNull = codes " IS NULL)"
behind_one u.IsNotNull = codes " IS NOT NULL)"
behind_one (u.Cast sql_type) = codes " AS " ++ (type_text sql_type ++ codes ")")
behind_one (u.Interval sign count unit) = interval_text sign count unit ++ codes ")"
behind_one _ = codes ")"

-- ---- with two operands

abbrev pub before_two : Binary → List ℕ
before_two (b.Operator operator) = codes "("
before_two b.Mod = codes "MOD("
before_two (b.NullIf reading) = codes "NULLIF("
before_two (b.Like negated escape) = codes "("
before_two (b.TrimOf shape) = trimming_text shape
before_two b.SubstringFrom = codes "SUBSTRING("

abbrev pub between_two : Binary → List ℕ
between_two (b.Operator operator) = symbol_text operator
between_two b.Mod = codes ","
between_two (b.NullIf reading) = codes ","
between_two (b.Like negated escape) = like_text negated
between_two (b.TrimOf shape) = codes " FROM "
between_two b.SubstringFrom = codes " FROM "

abbrev pub behind_two : Binary → List ℕ
behind_two (b.Like negated escape) = escape_text escape
behind_two _ = codes ")"

-- ---- with three operands

abbrev pub before_three : Ternary → List ℕ
before_three (three.Between negated low high) = codes "("
before_three three.SubstringFor = codes "SUBSTRING("

-- between the first and the second, and between the second and the third
abbrev pub first_of_three : Ternary → List ℕ
first_of_three (three.Between negated low high) = between_text negated
first_of_three three.SubstringFor = codes " FROM "

abbrev pub second_of_three : Ternary → List ℕ
second_of_three (three.Between negated low high) = codes " AND "
second_of_three three.SubstringFor = codes " FOR "

-- ---- with a list of operands

-- in front of the first one, and in front of another one
abbrev pub before_operand : Bool → List ℕ
before_operand true = codes "COALESCE("
before_operand false = codes ","

abbrev pub before_item : Bool → Bool → List ℕ
before_item negated true = in_text negated
before_item negated false = codes ","
