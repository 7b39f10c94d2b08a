-- Values that can be printed, as a test.
use Rattle.std.specs.Prelude.{Bool, true}
use Rattle.hs_values.specs.declared.sql_type.SqlType.{SqlType}
use Rattle.hs_values.specs.declared.sql_type.SqlType.TheVariants as t
use Rattle.hs_values.specs.declared.value.Value.{Value}
use Rattle.hs_values.specs.declared.value.Value.TheVariants as v
use Rattle.hs_values.specs.SqlType.{fits_of}

-- the type of which a value is that is no text and no truth
abbrev pub own_type : Value → SqlType
own_type (v.Dec d) = t.Decimal 38 d.scale
own_type (v.Day day) = t.Date
own_type (v.Micros micros) = t.Stamp
own_type _ = t.Big

abbrev pub is_lawful : Value → Bool
is_lawful (v.Text text) = true
is_lawful (v.Bool b) = true
is_lawful value = fits_of (own_type value) value
