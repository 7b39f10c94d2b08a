-- The days and the moments of the years 1 to 9999, which are those that SQL has.
use Rattle.std.specs.Prelude.{ℕ, ◌-◌, Bool, ◌&&◌, ℤ, pos, neg_ℤ, ◌+ℤ◌, ◌*ℤ◌, int_le}

abbrev pub is_from_to : ℤ → ℤ → ℤ → Bool
is_from_to low high n = int_le low n && int_le n high

-- 0001-01-01 and 9999-12-31 of the proleptic Gregorian calendar, counted in days from 1970-01-01
abbrev pub first_day : ℤ
first_day = neg_ℤ (pos 719_162)

abbrev pub last_day : ℤ
last_day = pos 2_932_896

abbrev pub is_day : ℤ → Bool
is_day = is_from_to first_day last_day

-- the microseconds of a day, which has 24 hours and no leap second
abbrev pub day_micros : ℕ
day_micros = 86_400_000_000

-- the microseconds from the beginning of the first of these days to the end of the last, counted from the beginning of 1970-01-01
abbrev pub is_moment : ℤ → Bool
is_moment = is_from_to (first_day *ℤ pos day_micros) (last_day *ℤ pos day_micros +ℤ pos (day_micros - 1))
