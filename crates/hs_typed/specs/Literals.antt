-- What literals and types mean.
use Rattle.std.specs.Prelude.{ℕ, true, false, if◌then◌else◌, ◌==◌, ◌&&◌, List, ℤ, Result, Ok, Err}
use Rattle.hs_ast.specs.declared.definition.DataType.{DataType}
use Rattle.hs_ast.specs.declared.definition.DataType.TheVariants as type
use Rattle.hs_ast.specs.declared.literal.Literal.{Literal}
use Rattle.hs_ast.specs.declared.literal.Literal.TheVariants as literal
use Rattle.hs_ast.specs.declared.literal.Number.{Number}
use Rattle.hs_plan.specs.declared.expression.Expr.TheVariants as e
use Rattle.hs_plan.specs.declared.kind.Kind.{Kind}
use Rattle.hs_plan.specs.declared.kind.Kind.TheVariants as k
use Rattle.hs_temporal.specs.Reading.{date_in, stamp_in}
use Rattle.hs_values.specs.declared.fault.EvalFault.{EvalFault}
use Rattle.hs_values.specs.declared.sql_type.SqlType.{SqlType}
use Rattle.hs_values.specs.declared.sql_type.SqlType.TheVariants as t
use Rattle.hs_values.specs.declared.value.Value.{Value}
use Rattle.hs_values.specs.declared.value.Value.TheVariants as v
use Rattle.hs_values.specs.SqlType.{is_signed}
use Rattle.hs_typed.specs.declared.typed.Typed.{Typed}

abbrev pub value_typed : Value → Kind → Typed
value_typed x kind = record { tree = e.Literal x; kind = kind }

-- a whole number that fits BIGINT is one, and every other number a decimal with as many digits behind the point as are written
abbrev pub number_typed : Number → Typed
number_typed n =
    if (n.scale == 0) && is_signed 63 n.units then value_typed (v.Int n.units) k.Whole
    else value_typed (v.Dec (record { units = n.units; scale = n.scale })) (k.Decimal n.scale)

-- a text behind DATE or TIMESTAMP that is none is a fault of evaluation, not of types
abbrev pub date_typed : List ℕ → Result ℤ EvalFault → Typed
date_typed text (Ok day) = value_typed (v.Day day) k.Date
date_typed text (Err fault) = record { tree = e.BadMoment false text; kind = k.Date }

abbrev pub timestamp_typed : List ℕ → Result ℤ EvalFault → Typed
timestamp_typed text (Ok micros) = value_typed (v.Micros micros) k.Timestamp
timestamp_typed text (Err fault) = record { tree = e.BadMoment true text; kind = k.Timestamp }

abbrev pub literal_typed : Literal → Typed
literal_typed literal.Null = value_typed v.Null k.Null
literal_typed (literal.Boolean truth) = value_typed (v.Bool truth) k.Boolean
literal_typed (literal.Number n) = number_typed n
literal_typed (literal.Text text) = value_typed (v.Text text) k.Text
literal_typed (literal.Date text) = date_typed text (date_in text)
literal_typed (literal.Timestamp text) = timestamp_typed text (stamp_in text)

-- a type as it is written
abbrev pub sql_type_of : DataType → SqlType
sql_type_of type.SmallInt = t.Small
sql_type_of type.Integer = t.Integer
sql_type_of type.BigInt = t.Big
sql_type_of (type.Decimal precision scale) = t.Decimal precision scale
sql_type_of (type.Varchar most) = t.Varchar most
sql_type_of type.Boolean = t.Bool
sql_type_of type.Date = t.Date
sql_type_of type.Timestamp = t.Stamp
