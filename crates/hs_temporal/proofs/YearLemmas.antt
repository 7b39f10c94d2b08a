-- The days and moments of lawful values are those of the years 1 to 9999.
use Rattle.std.proofs.Common.{◌≡◌, ◌↔◌, ℕ, ◌-◌, ◌<◌, ◌&&◌, true, ℤ, pos, ◌+ℤ◌, ◌*ℤ◌, ◌≤ℤ◌, refl, arith, ap, sym}
use Rattle.std.specs.Prelude.{int_le}
use Rattle.std.proofs.lemmas.Int.{ints}
use Rattle.std.proofs.lemmas.Bool.{and_parts}
use Rattle.jiff_core.specs.Calendar.{IsBetween, days_from_civil, day_count, days_of_years, days_of_months}
use Rattle.hs_values.specs.Years.{first_day, last_day, is_from_to, is_day, is_moment, day_micros}
use Rattle.hs_temporal.specs.declared.parts.Part.TheVariants as part
use Rattle.hs_temporal.specs.Days.{IsDay, IsMicros, day_of, time_of, moment_at, year_of, month_of, monthday_of}
use Rattle.hs_temporal.specs.Parts.{part_of}
use Rattle.hs_temporal.proofs.StampLemmas.{time_of-sum, sum-time_of}

pub days_from_civil-last : days_from_civil (pos 9999) 12 31 ≡ last_day
unfolding days_from_civil day_count days_of_years days_of_months
days_from_civil-last = refl

le_told : (a b : ℤ) → int_le a b ≡ true → a ≤ℤ b
le_told a b h = grind (arith, ints)

le_tells : (a b : ℤ) → a ≤ℤ b → int_le a b ≡ true
le_tells a b h = grind (arith, ints)

between : (low high n : ℤ) → (is_from_to low high n ≡ true) ↔ IsBetween low high n
between low high n = (
  λ h. let both = and_parts (int_le low n) (int_le n high) h in (le_told low n both.0, le_told n high both.1),
  λ h. (λ i. le_tells low n h.0 i && le_tells n high h.1 i),
)

pub days_alike : (day : ℤ) → (is_day day ≡ true) ↔ IsDay day
days_alike = between first_day last_day

of_parts : (micros day : ℤ) (time : ℕ) → micros ≡ day *ℤ pos 86_400_000_000 +ℤ pos time → time < 86_400_000_000 → IsBetween (first_day *ℤ pos day_micros) (last_day *ℤ pos day_micros +ℤ pos (day_micros - 1)) micros ↔ IsDay day
of_parts micros day time is less = (
  λ h. (omega (arith, ints, h.0, h.1), omega (arith, ints, h.0, h.1)),
  λ h. (omega (arith, ints, h.0, h.1), omega (arith, ints, h.0, h.1)),
)

pub moments_alike : (micros : ℤ) → (is_moment micros ≡ true) ↔ IsMicros micros
moments_alike micros =
    let whole = sum-time_of micros in
    let held = between (first_day *ℤ pos day_micros) (last_day *ℤ pos day_micros +ℤ pos (day_micros - 1)) micros in
    let parts = of_parts micros (day_of micros) (time_of micros) (sym whole.0) whole.1 in
    (λ h. parts.0 (held.0 h), λ h. held.1 (parts.1 h))

pub date_parts : (day : ℤ) → (part_of part.Year (moment_at day 0) ≡ pos (year_of day)) × (part_of part.Month (moment_at day 0) ≡ pos (month_of day)) × (part_of part.Day (moment_at day 0) ≡ pos (monthday_of day))
unfolding part_of
date_parts day =
    let same : day_of (moment_at day 0) ≡ day = (time_of-sum day 0 (omega arith)).0 in
    (ap (λ d. pos (year_of d)) same, ap (λ d. pos (month_of d)) same, ap (λ d. pos (monthday_of d)) same)
