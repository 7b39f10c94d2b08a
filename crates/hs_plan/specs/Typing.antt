-- The rules of kinds, one line each: which operands an operator, a predicate or a function takes, and the kind of what it gives.
-- None is a fault of types. NULL goes with every kind.
use Rattle.std.specs.Prelude.{ℕ, ◌+◌, Bool, true, false, ◌||◌, ◌&&◌, if◌then◌else◌, max, nat_le, Option, Some, None, is_some}
use Rattle.std.specs.Option.{option_and_then}
use Rattle.hs_values.specs.declared.sql_type.SqlType.{SqlType}
use Rattle.hs_values.specs.declared.sql_type.SqlType.TheVariants as t
use Rattle.hs_ast.specs.declared.expression.Aggregate.{Aggregate}
use Rattle.hs_ast.specs.declared.expression.Aggregate.TheVariants as aggregate
use Rattle.hs_ast.specs.declared.expression.BinaryOperator.{BinaryOperator}
use Rattle.hs_ast.specs.declared.expression.BinaryOperator.TheVariants as o
use Rattle.hs_ast.specs.declared.expression.DateField.{DateField}
use Rattle.hs_ast.specs.declared.expression.DateField.TheVariants as field
use Rattle.hs_plan.specs.declared.kind.Kind.{Kind}
use Rattle.hs_plan.specs.declared.kind.Kind.TheVariants as k
use Rattle.hs_plan.specs.declared.operator.Binary.{Binary}
use Rattle.hs_plan.specs.declared.operator.Binary.TheVariants as b
use Rattle.hs_plan.specs.declared.operator.Ternary.{Ternary}
use Rattle.hs_plan.specs.declared.operator.Ternary.TheVariants as three
use Rattle.hs_plan.specs.declared.operator.Unary.{Unary}
use Rattle.hs_plan.specs.declared.operator.Unary.TheVariants as u

-- the kind of a column's values
abbrev pub kind_of_type : SqlType → Kind
kind_of_type t.Small = k.Whole
kind_of_type t.Integer = k.Whole
kind_of_type t.Big = k.Whole
kind_of_type (t.Decimal precision scale) = k.Decimal scale
kind_of_type (t.Varchar most) = k.Text
kind_of_type t.Bool = k.Boolean
kind_of_type t.Date = k.Date
kind_of_type t.Stamp = k.Timestamp

-- ---- kinds together

-- the kind at which CASE, COALESCE, VALUES and set operations give values of two kinds: numbers at the greater scale
abbrev pub widest : Kind → Kind → Option Kind
widest k.Null c = Some c
widest a k.Null = Some a
widest k.Whole k.Whole = Some k.Whole
widest k.Whole (k.Decimal r) = Some (k.Decimal r)
widest k.Whole k.TooWide = Some k.TooWide
widest (k.Decimal s) k.Whole = Some (k.Decimal s)
widest (k.Decimal s) (k.Decimal r) = Some (k.Decimal (max s r))
widest (k.Decimal s) k.TooWide = Some k.TooWide
widest k.TooWide k.Whole = Some k.TooWide
widest k.TooWide (k.Decimal r) = Some k.TooWide
widest k.TooWide k.TooWide = Some k.TooWide
widest k.Text k.Text = Some k.Text
widest k.Boolean k.Boolean = Some k.Boolean
widest k.Date k.Date = Some k.Date
widest k.Timestamp k.Timestamp = Some k.Timestamp
widest _ _ = None

-- numbers compare with numbers, and others with their own kind
abbrev pub are_comparable : Kind → Kind → Bool
are_comparable a c = is_some (widest a c)

-- numbers go into columns of numbers, and others into columns of their own kind
abbrev pub is_assignable : SqlType → Kind → Bool
is_assignable column a = are_comparable (kind_of_type column) a

-- ---- kinds alone

-- what WHERE, ON, HAVING, WHEN, CHECK, AND, OR and NOT take
abbrev pub is_condition : Kind → Bool
is_condition k.Null = true
is_condition k.Boolean = true
is_condition _ = false

abbrev pub is_text : Kind → Bool
is_text k.Null = true
is_text k.Text = true
is_text _ = false

abbrev pub is_whole : Kind → Bool
is_whole k.Null = true
is_whole k.Whole = true
is_whole _ = false

abbrev pub is_moment : Kind → Bool
is_moment k.Null = true
is_moment k.Date = true
is_moment k.Timestamp = true
is_moment _ = false

-- the kind of a number, as which NULL is a whole one
abbrev pub number_of : Kind → Option Kind
number_of k.Null = Some k.Whole
number_of k.Whole = Some k.Whole
number_of (k.Decimal s) = Some (k.Decimal s)
number_of k.TooWide = Some k.TooWide
number_of _ = None

-- ---- what is given where the operands are right

abbrev pub given : Bool → Kind → Option Kind
given right kind = if right then Some kind else None

-- + - /: the greater scale
abbrev pub sum_kind : Kind → Kind → Option Kind
sum_kind a c = option_and_then (λ x. option_and_then (widest x) (number_of c)) (number_of a)

-- decimals of a scale
abbrev pub scaled : ℕ → Kind
scaled s = if nat_le s 38 then k.Decimal s else k.TooWide

abbrev pub product : Kind → Kind → Option Kind
product (k.Decimal s) (k.Decimal r) = Some (scaled (s + r))
product a c = widest a c

-- *: the sum of the scales
abbrev pub product_kind : Kind → Kind → Option Kind
product_kind a c = option_and_then (λ x. option_and_then (product x) (number_of c)) (number_of a)

-- years, months and days are parts of dates and timestamps, the others of timestamps alone
abbrev pub has_field : DateField → Kind → Bool
has_field field.Year a = is_moment a
has_field field.Month a = is_moment a
has_field field.Day a = is_moment a
has_field _ k.Null = true
has_field _ k.Timestamp = true
has_field _ _ = false

-- as in an assignment, and anything to a text, a text to a date or timestamp, and between these two
abbrev pub is_castable : SqlType → Kind → Bool
is_castable (t.Varchar most) a = true
is_castable t.Date a = is_text a || is_moment a
is_castable t.Stamp a = is_text a || is_moment a
is_castable column a = is_assignable column a

-- ---- the operators

abbrev pub unary_kind : Unary → Kind → Option Kind
unary_kind u.Plus a = number_of a
unary_kind u.Minus a = number_of a
unary_kind u.Abs a = number_of a
unary_kind u.Not a = given (is_condition a) k.Boolean
unary_kind u.IsNull a = Some k.Boolean
unary_kind u.IsNotNull a = Some k.Boolean
unary_kind (u.Cast column) a = given (is_castable column a) (kind_of_type column)
unary_kind u.Upper a = given (is_text a) k.Text
unary_kind u.Lower a = given (is_text a) k.Text
unary_kind (u.Trim shape) a = given (is_text a) k.Text
unary_kind u.CharLength a = given (is_text a) k.Whole
unary_kind (u.Extract part) a = given (has_field part a) k.Whole
unary_kind (u.Interval sign count unit) a = given (is_moment a) a

abbrev pub operator_kind : BinaryOperator → Kind → Kind → Option Kind
operator_kind o.And a c = given (is_condition a && is_condition c) k.Boolean
operator_kind o.Or a c = given (is_condition a && is_condition c) k.Boolean
operator_kind o.Equal a c = given (are_comparable a c) k.Boolean
operator_kind o.NotEqual a c = given (are_comparable a c) k.Boolean
operator_kind o.Less a c = given (are_comparable a c) k.Boolean
operator_kind o.LessOrEqual a c = given (are_comparable a c) k.Boolean
operator_kind o.Greater a c = given (are_comparable a c) k.Boolean
operator_kind o.GreaterOrEqual a c = given (are_comparable a c) k.Boolean
operator_kind o.Add a c = sum_kind a c
operator_kind o.Subtract a c = sum_kind a c
operator_kind o.Divide a c = sum_kind a c
operator_kind o.Multiply a c = product_kind a c
operator_kind o.Concatenate a c = given (is_text a && is_text c) k.Text

abbrev pub binary_kind : Binary → Kind → Kind → Option Kind
binary_kind (b.Operator operator) a c = operator_kind operator a c
binary_kind b.Mod a c = given (is_whole a && is_whole c) k.Whole
binary_kind (b.NullIf reading) a c = given (are_comparable a c) a
binary_kind (b.Like negated escape) a c = given (is_text a && is_text c) k.Boolean
binary_kind (b.TrimOf shape) a c = given (is_text a && is_text c) k.Text
binary_kind b.SubstringFrom a c = given (is_text a && is_whole c) k.Text

abbrev pub ternary_kind : Ternary → Kind → Kind → Kind → Option Kind
ternary_kind (three.Between negated below above) a low high = given (are_comparable a low && are_comparable a high) k.Boolean
ternary_kind three.SubstringFor a start count = given (is_text a && is_whole start && is_whole count) k.Text

abbrev pub aggregate_kind : Aggregate → Kind → Option Kind
aggregate_kind aggregate.Count a = Some k.Whole
aggregate_kind aggregate.Sum a = number_of a
aggregate_kind aggregate.Avg a = number_of a
aggregate_kind aggregate.Min a = Some a
aggregate_kind aggregate.Max a = Some a
