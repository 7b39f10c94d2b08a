-- What adding months gives, from the year that is reached.
use Rattle.std.proofs.Common.{◌≡◌, ℕ, ◌+◌, ◌⊎◌, inl, inr, Ok, Err, sym, ap, ◌∙◌, arith, min, unsigned_abs, ℤ, pos, neg_ℤ, ◌+ℤ◌, ◌<ℤ◌, ◌≤ℤ◌}
use Rattle.std.specs.Int.{int_div_euclid, int_rem_euclid}
use Rattle.std.proofs.lemmas.Int.{ints, by_lt_z}
use Rattle.jiff_core.specs.declared.civil.date.Date.{Date}
use Rattle.jiff_core.specs.Calendar.{days_from_civil, days_in_month}
use Rattle.jiff_core.specs.Date.{epoch_day}
use Rattle.jiff_core.proofs.SignedLemmas.{signed_arith}
use Rattle.jiff_span.specs.Months.{month_number, shifted_year, add_months, IsShiftable}
use Rattle.jiff_span.proofs.MonthLemmas.{shift_parts}
use Rattle.hs_values.specs.declared.fault.EvalFault.TheVariants.{Range}
use Rattle.hs_temporal.specs.Days.{IsDay, year_of, month_of, monthday_of}
use Rattle.hs_temporal.specs.Moves.{months_before, later_year, later_month, later_monthday, months_later}
use Rattle.hs_temporal.proofs.DayLemmas.{civil_parts}

within : (day n : ℤ) → pos 1 ≤ℤ later_year day n → later_year day n ≤ℤ pos 9999 → months_later day n ≡ Ok (days_from_civil (later_year day n) (later_month day n) (later_monthday day n))
unfolding months_later
within day n low high = grind (arith, ints)

pub below : (day n : ℤ) → later_year day n <ℤ pos 1 → months_later day n ≡ Err Range
unfolding months_later
below day n low = grind (arith, ints)

pub above : (day n : ℤ) → pos 9999 <ℤ later_year day n → months_later day n ≡ Err Range
unfolding months_later
above day n high = grind (arith, ints)

-- so many months reach beyond the years 1 to 9999 from any day of them
pub far : (day n : ℤ) → IsDay day → (n <ℤ neg_ℤ (pos 200_000)) ⊎ (pos 200_000 <ℤ n) → months_later day n ≡ Err Range
far day n h (inl low) = below day n (omega (arith, signed_arith, (civil_parts day h).0))
far day n h (inr high) = above day n (omega (arith, signed_arith, (civil_parts day h).0))

-- the date has the parts of the day
pub record IsDateOf (d : Date) (day : ℤ) : Type 0 where
  pub years : d.year ≡ pos (year_of day)
  pub months : d.month ≡ month_of day
  pub days : d.day ≡ monthday_of day

-- the day number of a month and a day of the month, or the month's last
abbrev day_at : ℤ → ℕ → ℤ
day_at months day =
    let year = int_div_euclid months (pos 12) in
    let month = unsigned_abs (int_rem_euclid months (pos 12)) + 1 in
    days_from_civil year month (min day (days_in_month year month))

-- so the library's sum of that date is the sum of the day
same_sum : (d : Date) (day n : ℤ) → IsDateOf d day → (shifted_year d n ≡ later_year day n) × (add_months d n ≡ days_from_civil (later_year day n) (later_month day n) (later_monthday day n))
same_sum d day n h =
    let months : month_number d ≡ months_before day = omega (arith, signed_arith) in (
      ap (λ m. int_div_euclid (m +ℤ n) (pos 12)) months,
      ap (λ m. day_at (m +ℤ n) d.day) months ∙ ap (day_at (months_before day +ℤ n)) h.days,
    )

-- the year of the library's date so many months later
reached : (d later : Date) (day n : ℤ) → IsDateOf d day → month_number later ≡ month_number d +ℤ n → later.year ≡ later_year day n
reached d later day n h e =
    let p = shift_parts d n later.year later.month (sym e) later.month_in.0 later.month_in.1 in
    sym p.0 ∙ (same_sum d day n h).0

-- that date tells the sum
pub later_date : (d later : Date) (day n : ℤ) → IsDateOf d day → month_number later ≡ month_number d +ℤ n → epoch_day later ≡ add_months d n → pos 1 ≤ℤ later.year → Ok (epoch_day later) ≡ months_later day n
later_date d later day n h e sum low =
    let year = reached d later day n h e in
    ap Ok (sum ∙ (same_sum d day n h).1) ∙ sym (within day n (omega (arith, signed_arith, year)) (omega (arith, signed_arith, year, later.year_in)))

pub early_date : (d later : Date) (day n : ℤ) → IsDateOf d day → month_number later ≡ month_number d +ℤ n → later.year <ℤ pos 1 → Err Range ≡ months_later day n
early_date d later day n h e low =
    let year = reached d later day n h e in
    sym (below day n (omega (arith, signed_arith, year)))

-- and where the library has none, the sum leaves the years
pub no_date : (d : Date) (day n : ℤ) → IsDateOf d day → ¬ (IsShiftable d n) → Err Range ≡ months_later day n
no_date d day n h none =
    let year = (same_sum d day n h).0 in
    by_lt_z (later_year day n) (pos 1)
    (λ low. sym (below day n low))
    (λ least. by_lt_z (pos 9999) (later_year day n)
    (λ high. sym (above day n high))
    (λ most. absurd (none (omega (arith, signed_arith, year), omega (arith, signed_arith, year)))))
