-- Values that the calendar and the texts give, so that a wrong rule in the specs does not check.
use Rattle.std.proofs.Common.{◌≡◌, codes, Ok, refl, sym, ap, ◌∙◌, arith, rules, pos, neg_ℤ}
use Rattle.jiff_core.specs.Calendar.{days_from_civil, day_count, days_of_years, days_of_months}
use Rattle.hs_temporal.specs.Days.{first_day, last_day}
use Rattle.hs_temporal.specs.Moves.{months_later}
use Rattle.hs_temporal.specs.Texts.{digits, date_text, clock_text, fraction, filled}
use Rattle.hs_temporal.proofs.DayLemmas.{civil_day}
use Rattle.hs_temporal.proofs.StampLemmas.{date_text-civil}

-- day 0 is 1970-01-01, the day before it -1, and 2024-02-29 is day 19,782
pub known_days : (days_from_civil (pos 1970) 1 1 ≡ pos 0) × (days_from_civil (pos 1969) 12 31 ≡ neg_ℤ (pos 1)) × (days_from_civil (pos 2024) 2 29 ≡ pos 19_782) × (days_from_civil (pos 2024) 1 31 ≡ pos 19_753)
    × (days_from_civil (pos 1) 1 1 ≡ first_day) × (days_from_civil (pos 9999) 12 31 ≡ last_day)
unfolding days_from_civil day_count days_of_years days_of_months
known_days = (refl, refl, refl, refl, refl, refl)

pub epoch_text : date_text (pos 0) ≡ codes "1970-01-01"
unfolding digits
epoch_text = ap date_text (sym known_days.0) ∙ date_text-civil 1970 1 1 (omega arith) (search rules)

pub leap_day_text : date_text (pos 19_782) ≡ codes "2024-02-29"
unfolding digits
leap_day_text = ap date_text (sym known_days.2) ∙ date_text-civil 2024 2 29 (omega arith) (search rules)

pub first_day_text : date_text first_day ≡ codes "0001-01-01"
unfolding digits
first_day_text = ap date_text (sym known_days.4) ∙ date_text-civil 1 1 1 (omega arith) (search rules)

-- 2024-01-31 and a month are 2024-02-29
pub short_month : months_later (pos 19_753) (pos 1) ≡ Ok (pos 19_782)
unfolding months_later
short_month =
    let p = rw known_days.3 at (civil_day 2024 1 31 (omega arith) (search rules)) in
    rw (p.1, p.2, p.3) (ap Ok known_days.2)

pub noon : clock_text 43_200 ≡ codes "12:00:00"
unfolding clock_text digits
noon = refl

-- a fraction is filled with zeros, and a point without digits is not
pub known_fractions : (filled (codes "2024-02-29 08:05:00") ≡ codes "2024-02-29 08:05:00.000000") × (filled (codes "2024-02-29 08:05:00.123") ≡ codes "2024-02-29 08:05:00.123000") × (filled (codes "2024-02-29 08:05:00.") ≡ codes "2024-02-29 08:05:00.")
unfolding filled fraction
known_fractions = (refl, refl, refl)
