-- The values of a type, and what is stored where a value is assigned.
use Rattle.std.specs.Prelude.{ℕ, ◌^◌, Bool, true, false, ◌&&◌, ◌==◌, nat_lt, nat_le, min, ℤ, pos, negsuc, unsigned_abs, List, length, if◌then◌else◌, Result, Ok, Err}
use Rattle.std.specs.Cmp.Lexicographic.{pointwise}
use Rattle.std.specs.Str.{chars}
use Rattle.hs_values.specs.declared.fault.EvalFault.{EvalFault}
use Rattle.hs_values.specs.declared.fault.EvalFault.TheVariants.{Range, TooLong}
use Rattle.hs_values.specs.declared.sql_type.SqlType.{SqlType}
use Rattle.hs_values.specs.declared.sql_type.SqlType.TheVariants as t
use Rattle.hs_values.specs.declared.value.Dec.{Dec}
use Rattle.hs_values.specs.declared.value.Value.{Value}
use Rattle.hs_values.specs.declared.value.Value.TheVariants as v
use Rattle.hs_values.specs.Decimal.{units_at}
use Rattle.hs_values.specs.Order.{whole}
use Rattle.hs_values.specs.Years.{is_day, is_moment}

-- the signed numbers of 1 + bits bits
abbrev pub is_signed : ℕ → ℤ → Bool
is_signed bits (pos n) = nat_lt n (2 ^ bits)
is_signed bits (negsuc n) = nat_lt n (2 ^ bits)

-- a decimal of this scale with at most so many digits, 38 being the most of either
abbrev pub has_digits : ℕ → ℕ → Dec → Bool
has_digits precision scale d = (d.scale == scale) && nat_le scale 38 && nat_lt (unsigned_abs d.units) (10 ^ min precision 38)

-- whether a value is one of the type's, of which NULL is one
abbrev pub fits_of : SqlType → Value → Bool
fits_of _ v.Null = true
fits_of t.Small (v.Int n) = is_signed 15 n
fits_of t.Integer (v.Int n) = is_signed 31 n
fits_of t.Big (v.Int n) = is_signed 63 n
fits_of (t.Decimal precision scale) (v.Dec d) = has_digits precision scale d
fits_of (t.Varchar most) (v.Text text) = nat_le (length (chars text)) most
fits_of t.Bool (v.Bool b) = true
fits_of t.Date (v.Day day) = is_day day
fits_of t.Stamp (v.Micros micros) = is_moment micros
fits_of _ _ = false

-- a row with as many values as there are types, each one of its own type's
abbrev pub row_fits : List SqlType → List Value → Bool
row_fits = pointwise fits_of

-- the units that a number has in a DECIMAL column, or as a whole number
abbrev pub column_form : SqlType → Value → Value
column_form (t.Decimal precision scale) (v.Int n) = v.Dec (record { units = units_at (whole n) scale; scale = scale })
column_form (t.Decimal precision scale) (v.Dec d) = v.Dec (record { units = units_at d scale; scale = scale })
column_form _ (v.Dec d) = v.Int (units_at d 0)
column_form _ a = a

-- why a value can't be stored
abbrev pub misfit_of : Value → EvalFault
misfit_of (v.Text text) = TooLong
misfit_of _ = Range

-- a number at the column's scale, cut toward zero, and any other value as it is, where that is one of the type's
abbrev pub assign_of : SqlType → Value → Result Value EvalFault
assign_of sql_type a = if fits_of sql_type (column_form sql_type a) then Ok (column_form sql_type a) else Err (misfit_of a)
