-- How the conditions of CHECK are written.
use Rattle.std.specs.Prelude.{ℕ, Bool, true, if◌then◌else◌, List, [], ◌∷◌, ◌++◌, codes, Option, None, Some, slice_get}
use Rattle.std.specs.Option.{option_map_or}
use Rattle.hs_plan.specs.declared.definition.Column.{Column}
use Rattle.hs_plan.specs.declared.expression.CaseArm.{CaseArm, fold-CaseArm}
use Rattle.hs_plan.specs.declared.expression.Expr.{Expr, fold-Expr}
use Rattle.hs_plan.specs.declared.expression.Expr.TheOpen.{Expr-F, CaseArm-F, ListItem-F}
use Rattle.hs_plan.specs.declared.expression.ListItem.{ListItem, fold-ListItem}
use Rattle.hs_values.specs.declared.sql_type.SqlType.TheVariants as t
use Rattle.hs_values.specs.declared.value.Value.{Value}
use Rattle.hs_values.specs.declared.value.Value.TheVariants as v
use Rattle.hs_values.specs.SqlType.{fits_of}
use Rattle.hs_valuetext.specs.Texts.{chars_text}
use Rattle.hs_valuetext.specs.Values.{value_text}
use Rattle.hs_nametext.specs.Names.{name_text}
use Rattle.hs_conditiontext.specs.Operators.{moment_text, in_text, before_one, behind_one, before_two, between_two, behind_two, before_three, first_of_three, second_of_three}

-- ---- lists

abbrev pub Text : Type 0
Text = List ℕ

abbrev pub concat : List Text → Text
concat [] = []
concat (x ∷ xs) = x ++ concat xs

-- the first behind this front, and each other one behind a comma
abbrev pub listed : Text → List Text → Text
listed front [] = []
listed front (x ∷ xs) = front ++ (x ++ listed (codes ",") xs)

-- ELSE with its value, where it is written
abbrev pub otherwise_text : Option Text → Text
otherwise_text None = []
otherwise_text (Some e) = codes " ELSE " ++ e

-- ---- literals

-- a whole number has 64 bits, a decimal at most 38 digits, and a date or a timestamp is of the years 1 to 9999
abbrev pub is_value : Value → Bool
is_value (v.Int n) = fits_of t.Big (v.Int n)
is_value (v.Dec d) = fits_of (t.Decimal 38 d.scale) (v.Dec d)
is_value (v.Day day) = fits_of t.Date (v.Day day)
is_value (v.Micros micros) = fits_of t.Stamp (v.Micros micros)
is_value _ = true

-- any other one has the empty text
abbrev pub literal_text : Value → Text
literal_text value = if is_value value then value_text value else []

-- ---- columns

-- the name of the column at a place, and the empty one where there is none
abbrev pub name_at : List Column → ℕ → List ℕ
name_at columns at = option_map_or (λ c. c.name) (slice_get columns at) []

abbrev pub column_text : List Column → ℕ → Text
column_text columns at = name_text (name_at columns at)

-- ---- one layer, with the texts of its parts in their places

-- Each operator and each predicate stands with its operands in one pair of parentheses, and a column as its name alone. Queries and
-- aggregates, which no CHECK has, have the empty text.
abbrev pub of_expression : List Column → Expr-F Text Text Text Text Text Text Text Text Text Text Text Text → Text
of_expression columns (Expr-F.Literal x) = literal_text x
of_expression columns (Expr-F.ReadText text reading) = chars_text text
of_expression columns (Expr-F.BadMoment timestamp text) = moment_text timestamp ++ chars_text text
of_expression columns (Expr-F.Column outward at) = column_text columns at
of_expression columns (Expr-F.Unary operator a) = before_one operator ++ (a ++ behind_one operator)
of_expression columns (Expr-F.Binary operator a b) = before_two operator ++ (a ++ (between_two operator ++ (b ++ behind_two operator)))
of_expression columns (Expr-F.Ternary operator a b c) = before_three operator ++ (a ++ (first_of_three operator ++ (b ++ (second_of_three operator ++ (c ++ codes ")")))))
of_expression columns (Expr-F.InList a negated list) = codes "(" ++ (a ++ (listed (in_text negated) list ++ codes "))"))
of_expression columns (Expr-F.InQuery a negated query) = []
of_expression columns (Expr-F.Exists query) = []
of_expression columns (Expr-F.Subquery query) = []
of_expression columns (Expr-F.Case kind arms otherwise) = codes "CASE" ++ (concat arms ++ (otherwise_text otherwise ++ codes " END"))
of_expression columns (Expr-F.Coalesce kind operands) = listed (codes "COALESCE(") operands ++ codes ")"
of_expression columns Expr-F.CountRows = []
of_expression columns (Expr-F.Aggregate function distinct a) = []

abbrev pub of_arm : CaseArm-F Text Text Text Text Text Text Text Text Text Text Text Text → Text
of_arm arm = codes " WHEN " ++ (arm.test ++ (codes " THEN " ++ arm.value))

abbrev pub of_item : ListItem-F Text Text Text Text Text Text Text Text Text Text Text Text → Text
of_item item = item.value

-- ---- whole conditions

abbrev pub no_text : {A : Type 0} → A → Text
no_text part = []

-- the one text of a condition over a table's columns
abbrev pub condition_text : List Column → Expr → Text
condition_text columns = fold-Expr Text Text Text Text Text Text Text Text Text Text Text Text (of_expression columns) no_text no_text no_text no_text of_arm of_item no_text no_text no_text no_text no_text

abbrev pub arm_text : List Column → CaseArm → Text
arm_text columns = fold-CaseArm Text Text Text Text Text Text Text Text Text Text Text Text (of_expression columns) no_text no_text no_text no_text of_arm of_item no_text no_text no_text no_text no_text

abbrev pub item_text : List Column → ListItem → Text
item_text columns = fold-ListItem Text Text Text Text Text Text Text Text Text Text Text Text (of_expression columns) no_text no_text no_text no_text of_arm of_item no_text no_text no_text no_text no_text
