-- The values that the calls of this engine's crates take and give.
use Rattle.std.specs.Prelude.{IsTrue}
use Rattle.hs_values.specs.declared.value.Value.{Value}
use Rattle.hs_values.specs.declared.value.Value.TheVariants as v
use Rattle.hs_values.specs.Decimal.{IsDecimal}
use Rattle.hs_values.specs.SqlType.{is_signed}
use Rattle.hs_values.specs.Years.{is_day, is_moment}

-- a whole number has 64 bits, a decimal at most 38 digits and a scale of at most 38, and a date or a timestamp is of the years 1 to 9999
abbrev pub IsLawful : Value → Type 0
IsLawful (v.Int n) = IsTrue (is_signed 63 n)
IsLawful (v.Dec d) = IsDecimal d
IsLawful (v.Day day) = IsTrue (is_day day)
IsLawful (v.Micros micros) = IsTrue (is_moment micros)
IsLawful _ = Unit {0}
