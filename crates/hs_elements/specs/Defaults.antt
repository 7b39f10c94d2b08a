-- The value that a literal behind DEFAULT gives a column.
use Rattle.std.specs.Prelude.{ℕ, ℤ, Bool, Option, Some, None}
use Rattle.std.specs.Option.{option_map}
use Rattle.std.specs.Result.{result_ok}
use Rattle.hs_ast.specs.declared.literal.Literal.{Literal}
use Rattle.hs_ast.specs.declared.literal.Literal.TheVariants as literal
use Rattle.hs_temporal.specs.Reading.{date_in, stamp_in}
use Rattle.hs_values.specs.SqlType.{assign_of}
use Rattle.hs_values.specs.declared.sql_type.SqlType.{SqlType}
use Rattle.hs_values.specs.declared.sql_type.SqlType.TheVariants as t
use Rattle.hs_values.specs.declared.value.Value.{Value}
use Rattle.hs_values.specs.declared.value.Value.TheVariants as v
use Rattle.hs_elements.specs.Faults.{Text}

-- a number at the column's scale, cut toward zero
abbrev pub of_number : SqlType → ℤ → ℕ → Option Value
of_number t.Bool units scale = None
of_number t.Date units scale = None
of_number t.Stamp units scale = None
of_number (t.Varchar most) units scale = None
of_number type units scale = result_ok (assign_of type (v.Dec (record { units = units; scale = scale })))

-- a text, which is read as a date or a timestamp for a column of one
abbrev pub of_text : SqlType → Text → Option Value
of_text (t.Varchar most) text = result_ok (assign_of (t.Varchar most) (v.Text text))
of_text t.Date text = option_map v.Day (result_ok (date_in text))
of_text t.Stamp text = option_map v.Micros (result_ok (stamp_in text))
of_text _ text = None

abbrev pub of_boolean : SqlType → Bool → Option Value
of_boolean t.Bool b = Some (v.Bool b)
of_boolean _ b = None

abbrev pub of_date : SqlType → Text → Option Value
of_date t.Date text = option_map v.Day (result_ok (date_in text))
of_date _ text = None

abbrev pub of_timestamp : SqlType → Text → Option Value
of_timestamp t.Stamp text = option_map v.Micros (result_ok (stamp_in text))
of_timestamp _ text = None

-- None where the literal can't be assigned to the type
abbrev pub default_of : SqlType → Literal → Option Value
default_of type literal.Null = Some v.Null
default_of type (literal.Boolean b) = of_boolean type b
default_of type (literal.Number n) = of_number type n.units n.scale
default_of type (literal.Text text) = of_text type text
default_of type (literal.Date text) = of_date type text
default_of type (literal.Timestamp text) = of_timestamp type text
