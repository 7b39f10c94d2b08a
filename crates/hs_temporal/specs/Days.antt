-- Days by number, with 0 for 1970-01-01 of the proleptic Gregorian calendar, and microseconds since the beginning of that day.
use Rattle.std.specs.Prelude.{ℕ, zero, suc, ◌+◌, Bool, if◌then◌else◌, ℤ, pos, ◌+ℤ◌, ◌-ℤ◌, ◌*ℤ◌, int_le, unsigned_abs}
use Rattle.std.specs.Int.{int_div_euclid, int_rem_euclid}
use Rattle.jiff_core.specs.Calendar.{IsBetween, days_from_civil}
pub use Rattle.hs_values.specs.Years.{first_day, last_day, day_micros}

-- how many days there are from the one to the other
abbrev pub day_total : ℕ
day_total = 3_652_059

-- a day of the years 1 to 9999, for which SQL has dates
abbrev pub IsDay : ℤ → Type 0
IsDay day = IsBetween first_day last_day day

-- how many of the numbers from 1 to n pass the test
unfoldable pub count_to : (ℕ → Bool) → ℕ → ℕ
count_to test zero = 0
count_to test (suc n) = count_to test n + (if test (suc n) then 1 else 0)

-- the year of a day is how many years, from the year 1 on, have begun by then
unfoldable pub year_of : ℤ → ℕ
year_of day = count_to (λ year. int_le (days_from_civil (pos year) 1 1) day) 9999

-- its month is how many months of the year have begun by then
unfoldable pub month_of : ℤ → ℕ
month_of day = count_to (λ month. int_le (days_from_civil (pos (year_of day)) month 1) day) 12

-- its day of the month counts from the month's first, which is 1
unfoldable pub monthday_of : ℤ → ℕ
monthday_of day = unsigned_abs (day -ℤ days_from_civil (pos (year_of day)) (month_of day) 1) + 1

-- the day in which a time lies
abbrev pub day_of : ℤ → ℤ
day_of micros = int_div_euclid micros (pos day_micros)

-- the microseconds of that day that have passed by then
abbrev pub time_of : ℤ → ℕ
time_of micros = unsigned_abs (int_rem_euclid micros (pos day_micros))

-- a time of the years 1 to 9999
abbrev pub IsMicros : ℤ → Type 0
IsMicros micros = IsDay (day_of micros)

-- the time so many microseconds after the beginning of a day
abbrev pub moment_at : ℤ → ℕ → ℤ
moment_at day time = day *ℤ pos day_micros +ℤ pos time
