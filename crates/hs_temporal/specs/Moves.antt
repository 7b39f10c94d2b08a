-- Sums of days and months.
use Rattle.std.specs.Prelude.{ℕ, ◌+◌, ◌-◌, min, ◌&&◌, if◌then◌else◌, ℤ, pos, ◌+ℤ◌, ◌*ℤ◌, int_le, unsigned_abs, Result, Ok, Err}
use Rattle.std.specs.Int.{int_div_euclid, int_rem_euclid}
use Rattle.jiff_core.specs.Calendar.{days_from_civil, days_in_month}
use Rattle.hs_values.specs.declared.fault.EvalFault.{EvalFault}
use Rattle.hs_values.specs.declared.fault.EvalFault.TheVariants.{Range}
use Rattle.hs_temporal.specs.Days.{first_day, last_day, year_of, month_of, monthday_of}

-- the day n days later, in the years 1 to 9999
unfoldable pub days_later : ℤ → ℤ → Result ℤ EvalFault
days_later day n =
    let later = day +ℤ n in
    if int_le first_day later && int_le later last_day then Ok later else Err Range

-- the months from January of the year 0 to the month of the day
abbrev pub months_before : ℤ → ℤ
months_before day = pos (year_of day) *ℤ pos 12 +ℤ pos (month_of day - 1)

-- the year n months later
abbrev pub later_year : ℤ → ℤ → ℤ
later_year day n = int_div_euclid (months_before day +ℤ n) (pos 12)

-- the month n months later, from 1 to 12
abbrev pub later_month : ℤ → ℤ → ℕ
later_month day n = unsigned_abs (int_rem_euclid (months_before day +ℤ n) (pos 12)) + 1

-- the same day of that month, or its last where it is shorter
abbrev pub later_monthday : ℤ → ℤ → ℕ
later_monthday day n = min (monthday_of day) (days_in_month (later_year day n) (later_month day n))

-- the day n months later, in the years 1 to 9999
unfoldable pub months_later : ℤ → ℤ → Result ℤ EvalFault
months_later day n =
    if int_le (pos 1) (later_year day n) && int_le (later_year day n) (pos 9999)
    then Ok (days_from_civil (later_year day n) (later_month day n) (later_monthday day n))
    else Err Range
