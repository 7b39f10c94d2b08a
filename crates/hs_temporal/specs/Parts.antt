-- The parts of a timestamp.
use Rattle.std.specs.Prelude.{◌/◌, ◌%◌, ℤ, pos}
use Rattle.hs_temporal.specs.declared.parts.Part.{Part}
use Rattle.hs_temporal.specs.declared.parts.Part.TheVariants as part
use Rattle.hs_temporal.specs.Days.{year_of, month_of, monthday_of, day_of, time_of}

-- the whole part, of a time in microseconds
unfoldable pub part_of : Part → ℤ → ℤ
part_of part.Year micros = pos (year_of (day_of micros))
part_of part.Month micros = pos (month_of (day_of micros))
part_of part.Day micros = pos (monthday_of (day_of micros))
part_of part.Hour micros = pos (time_of micros / 3_600_000_000)
part_of part.Minute micros = pos (time_of micros / 60_000_000 % 60)
part_of part.Second micros = pos (time_of micros / 1_000_000 % 60)
