-- Parts of dates and timestamps, and intervals. What is neither date nor timestamp gives NULL.
use Rattle.std.specs.Prelude.{ℕ, ℤ, pos, neg_ℤ, if◌then◌else◌, Result, Ok, Err}
use Rattle.hs_ast.specs.declared.expression.DateField.{DateField}
use Rattle.hs_ast.specs.declared.expression.DateField.TheVariants as field
use Rattle.hs_ast.specs.declared.expression.IntervalUnit.{IntervalUnit}
use Rattle.hs_ast.specs.declared.expression.IntervalUnit.TheVariants as unit
use Rattle.hs_ast.specs.declared.expression.Sign.{Sign}
use Rattle.hs_ast.specs.declared.expression.Sign.TheVariants as sign
use Rattle.hs_values.specs.declared.fault.EvalFault.{EvalFault}
use Rattle.hs_values.specs.declared.fault.EvalFault.TheVariants.{Range}
use Rattle.hs_values.specs.declared.value.Value.{Value}
use Rattle.hs_values.specs.declared.value.Value.TheVariants as v
use Rattle.hs_values.specs.Outcome.{◌>>=◌}
use Rattle.hs_values.specs.Years.{is_day, is_moment}
use Rattle.hs_temporal.specs.declared.parts.Part.{Part}
use Rattle.hs_temporal.specs.declared.parts.Part.TheVariants as part
use Rattle.hs_temporal.specs.Days.{day_of, time_of, moment_at}
use Rattle.hs_temporal.specs.Moves.{days_later, months_later}
use Rattle.hs_temporal.specs.Parts.{part_of}
use Rattle.hs_expression.specs.Numbers.{Outcome, in_64_bits}

-- a day, and a time, of the years 1 to 9999
abbrev pub lawful_day : ℤ → Result ℤ EvalFault
lawful_day day = if is_day day then Ok day else Err Range

abbrev pub lawful_moment : ℤ → Result ℤ EvalFault
lawful_moment micros = if is_moment micros then Ok micros else Err Range

abbrev pub part_named : DateField → Part
part_named field.Year = part.Year
part_named field.Month = part.Month
part_named field.Day = part.Day
part_named field.Hour = part.Hour
part_named field.Minute = part.Minute
part_named field.Second = part.Second

-- of a date the part at its beginning
abbrev pub extracted_value : DateField → Value → Outcome
extracted_value name (v.Day day) = lawful_day day >>= λ d. Ok (v.Int (part_of (part_named name) (moment_at d 0)))
extracted_value name (v.Micros micros) = lawful_moment micros >>= λ m. Ok (v.Int (part_of (part_named name) m))
extracted_value name _ = Ok v.Null

abbrev pub with_sign : Sign → ℕ → ℤ
with_sign sign.Plus count = pos count
with_sign sign.Minus count = neg_ℤ (pos count)

-- how many days or months an interval is
abbrev pub signed_count : Sign → ℕ → Result ℤ EvalFault
signed_count s count = in_64_bits (with_sign s count)

abbrev pub later_day : IntervalUnit → ℤ → ℤ → Result ℤ EvalFault
later_day unit.Day = days_later
later_day unit.Month = months_later

-- the time of day stays
abbrev pub moved_value : Sign → ℕ → IntervalUnit → Value → Outcome
moved_value s count u (v.Day day) = lawful_day day >>= λ d. signed_count s count >>= λ n. later_day u d n >>= λ later. Ok (v.Day later)
moved_value s count u (v.Micros micros) =
    lawful_moment micros >>= λ m. signed_count s count >>= λ n. later_day u (day_of m) n >>= λ later. Ok (v.Micros (moment_at later (time_of m)))
moved_value s count u _ = Ok v.Null
