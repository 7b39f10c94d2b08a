-- CAST.
use Rattle.std.specs.Prelude.{Bool, true, false, List, ℕ, ℤ, Ok, codes}
use Rattle.std.specs.Fmt.{signed_decimal}
use Rattle.hs_values.specs.declared.sql_type.SqlType.{SqlType}
use Rattle.hs_values.specs.declared.sql_type.SqlType.TheVariants as t
use Rattle.hs_values.specs.declared.value.Dec.{Dec}
use Rattle.hs_values.specs.declared.value.Value.{Value}
use Rattle.hs_values.specs.declared.value.Value.TheVariants as v
use Rattle.hs_values.specs.Outcome.{◌>>=◌}
use Rattle.hs_values.specs.SqlType.{assign_of}
use Rattle.hs_decimal.specs.Text.{text_of}
use Rattle.hs_temporal.specs.Days.{day_of, moment_at}
use Rattle.hs_temporal.specs.Reading.{date_in, stamp_in}
use Rattle.hs_temporal.specs.Texts.{date_text, stamp_text}
use Rattle.hs_expression.specs.Moments.{lawful_day, lawful_moment}
use Rattle.hs_expression.specs.Numbers.{Outcome, lawful_decimal}

abbrev pub truth_text : Bool → List ℕ
truth_text true = codes "TRUE"
truth_text false = codes "FALSE"

abbrev pub decimal_text : Dec → Outcome
decimal_text d = lawful_decimal d >>= λ a. Ok (v.Text (text_of a))

abbrev pub day_text : ℤ → Outcome
day_text day = lawful_day day >>= λ d. Ok (v.Text (date_text d))

abbrev pub moment_text : ℤ → Outcome
moment_text micros = lawful_moment micros >>= λ m. Ok (v.Text (stamp_text m))

-- the text of a value: as a literal is written, but without quotes and without the words DATE and TIMESTAMP
abbrev pub as_text : Value → Outcome
as_text v.Null = Ok v.Null
as_text (v.Int n) = Ok (v.Text (signed_decimal n))
as_text (v.Dec d) = decimal_text d
as_text (v.Text text) = Ok (v.Text text)
as_text (v.Bool b) = Ok (v.Text (truth_text b))
as_text (v.Day day) = day_text day
as_text (v.Micros micros) = moment_text micros

-- a text that is read, and the day of a timestamp
abbrev pub as_date : Value → Outcome
as_date (v.Text text) = date_in text >>= λ day. Ok (v.Day day)
as_date (v.Micros micros) = lawful_moment micros >>= λ m. Ok (v.Day (day_of m))
as_date a = Ok a

-- a text that is read, and the beginning of a date
abbrev pub as_timestamp : Value → Outcome
as_timestamp (v.Text text) = stamp_in text >>= λ micros. Ok (v.Micros micros)
as_timestamp (v.Day day) = lawful_day day >>= λ d. Ok (v.Micros (moment_at d 0))
as_timestamp a = Ok a

abbrev pub converted : SqlType → Value → Outcome
converted (t.Varchar most) a = as_text a
converted t.Date a = as_date a
converted t.Stamp a = as_timestamp a
converted _ a = Ok a

-- what is converted is then assigned
abbrev pub cast_value : SqlType → Value → Outcome
cast_value sql_type a = converted sql_type a >>= assign_of sql_type
