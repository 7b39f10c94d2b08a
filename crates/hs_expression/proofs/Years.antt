-- Days and times of the years 1 to 9999.
use Rattle.std.proofs.Common.{◌≡◌, true, ℤ}
use Rattle.hs_values.specs.Years.{is_day, is_moment}
use Rattle.hs_temporal.specs.Days.{IsDay, IsMicros}
use Rattle.hs_temporal.proofs.YearLemmas.{days_alike, moments_alike}

pub days_within : (day : ℤ) → is_day day ≡ true → IsDay day
days_within day h = (days_alike day).0 h

pub moments_within : (micros : ℤ) → is_moment micros ≡ true → IsMicros micros
moments_within micros h = (moments_alike micros).0 h
