-- Each day number is that of one date, whose year, month and day the counts of `Days` give.
use Rattle.std.proofs.Common.{◌≡◌, ℕ, zero, suc, ◌+◌, ◌<◌, ◌≤◌, Bool, true, false, inl, inr, refl, sym, ap, subst, ◌∙◌, arith, rules, ℤ, pos, ◌+ℤ◌, ◌-ℤ◌, ◌<ℤ◌, ◌≤ℤ◌, unsigned_abs}
use Rattle.std.specs.Prelude.{int_le}
use Rattle.std.proofs.lemmas.Bool.{cases_lt}
use Rattle.std.proofs.lemmas.Int.{by_lt_z, ints}
use Rattle.jiff_core.specs.declared.civil.date.Date.{Date}
use Rattle.jiff_core.specs.Calendar.{IsCivilDate, days_from_civil, day_count, days_in_month, days_of_years, days_of_months}
use Rattle.jiff_core.specs.Date.{epoch_day}
use Rattle.jiff_core.proofs.SignedLemmas.{signed_arith, one_part}
use Rattle.jiff_core.proofs.CalendarLemmas.{days_from_civil-day_count, day_count-lt_year, day_count-lt_month, day_count-day, day_count-day_of_year, days_in_month_bounds}
use Rattle.jiff_core.proofs.DateLemmas.{civil, epoch_day_range, days_from_civil-day, days_from_civil-next_month, days_from_civil-next_year, days_from_civil-max}
use Rattle.hs_temporal.specs.Days.{first_day, last_day, IsDay, count_to, year_of, month_of, monthday_of}

-- a test that the numbers up to k pass, and none above
pub count_to-at : (test : ℕ → Bool) (n k : ℕ) → k ≤ n → ((i : ℕ) → 1 ≤ i → i ≤ k → test i ≡ true) → ((i : ℕ) → k < i → i ≤ n → test i ≡ false) → count_to test n ≡ k
unfolding count_to
count_to-at test zero k h passes fails = omega arith
count_to-at test (suc n) k h passes fails =
    elim (cases_lt n k) [
      | inl all ↦
          let here = passes (suc n) (omega arith) (omega arith) in
          let before = count_to-at test n n (omega arith) (λ i low high. passes i low (omega arith)) (λ i low high. absurd (omega arith)) in
          rw here (omega (arith, before))
      | inr short ↦
          let here = fails (suc n) (omega arith) (omega arith) in
          let before = count_to-at test n k (omega arith) passes (λ i low high. fails i low (omega arith)) in
          rw here (omega (arith, before))
    ]

le_holds : (a b : ℤ) → a ≤ℤ b → int_le a b ≡ true
le_holds a b h = grind (arith, ints)

le_fails : (a b : ℤ) → b <ℤ a → int_le a b ≡ false
le_fails a b h = grind (arith, ints)

year_begun : (d : Date) (year : ℤ) → year ≤ℤ d.year → IsCivilDate year 1 1 → days_from_civil year 1 1 ≤ℤ epoch_day d
year_begun d year h first =
    by_lt_z year d.year
    (λ lt. omega (arith, signed_arith, days_from_civil-day_count, day_count-lt_year year 1 1 d.year d.month d.day first d.day_in.0 lt))
    (λ ge. let same : year ≡ d.year = omega (arith, signed_arith) in
    rw same (omega (arith, signed_arith, days_from_civil-day_count, day_count-day_of_year d.year d.month d.day d.day_in.0, d.day_in)))

year_ahead : (d : Date) (year : ℤ) → d.year <ℤ year → epoch_day d <ℤ days_from_civil year 1 1
year_ahead d year lt =
    omega (arith, signed_arith, days_from_civil-day_count, day_count-lt_year d.year d.month d.day year 1 1 (civil d) (omega arith) lt)

month_begun : (d : Date) (month : ℕ) → 1 ≤ month → month ≤ d.month → days_from_civil d.year month 1 ≤ℤ epoch_day d
month_begun d month low h =
    elim (cases_lt month d.month) [
      | inl lt ↦
          let long = days_in_month_bounds d.year month in
          let first : IsCivilDate d.year month 1 = (d.year_in, (low, omega (arith, d.month_in)), (omega arith, omega arith)) in
          omega (arith, signed_arith, days_from_civil-day_count, day_count-lt_month d.year month 1 d.month d.day first d.day_in.0 lt)
      | inr ge ↦
          let same : month ≡ d.month = omega arith in
          rw same (omega (arith, signed_arith, days_from_civil-day_count, day_count-day d.year d.month d.day 1 d.day_in.0 (omega arith), d.day_in))
    ]

month_ahead : (d : Date) (month : ℕ) → d.month < month → epoch_day d <ℤ days_from_civil d.year month 1
month_ahead d month lt =
    omega (arith, signed_arith, days_from_civil-day_count, day_count-lt_month d.year d.month d.day month 1 (civil d) (omega arith) lt)

first_of : (year : ℕ) → year ≤ 9999 → IsCivilDate (pos year) 1 1
first_of year h =
    let long = days_in_month_bounds (pos year) 1 in
    (omega (arith, signed_arith), (omega arith, omega arith), (omega arith, omega arith))

pub year_of-date : (d : Date) → pos 1 ≤ℤ d.year → pos (year_of (epoch_day d)) ≡ d.year
unfolding year_of
year_of-date d h =
    let year = unsigned_abs d.year in
    let is : pos year ≡ d.year = omega (arith, signed_arith, one_part d.year) in
    let high : year ≤ 9999 = omega (arith, signed_arith, d.year_in) in
    let counted : year_of (epoch_day d) ≡ year = count_to-at _ 9999 year high
    (λ i low le. le_holds _ _ (year_begun d (pos i) (omega (arith, signed_arith)) (first_of i (omega arith))))
    (λ i low le. le_fails _ _ (year_ahead d (pos i) (omega (arith, signed_arith)))) in
    ap pos counted ∙ is

pub month_of-date : (d : Date) → pos 1 ≤ℤ d.year → month_of (epoch_day d) ≡ d.month
unfolding month_of
month_of-date d h =
    rw (year_of-date d h)
    (count_to-at _ 12 d.month d.month_in.1
    (λ i low le. le_holds _ _ (month_begun d i low le))
    (λ i low le. le_fails _ _ (month_ahead d i low)))

pub monthday_of-date : (d : Date) → pos 1 ≤ℤ d.year → monthday_of (epoch_day d) ≡ d.day
unfolding monthday_of
monthday_of-date d h =
    let first = days_from_civil d.year d.month 1 in
    rw (year_of-date d h, month_of-date d h)
    (omega (arith, signed_arith, one_part (epoch_day d -ℤ first), days_from_civil-day_count, day_count-day d.year d.month d.day 1 d.day_in.0 (omega arith), d.day_in))

-- a day number is that of a date
pub record IsDated (day : ℤ) : Type 0 where
  pub date : Date
  pub number : epoch_day date ≡ day
  pub year : pos 1 ≤ℤ date.year

december : (year : ℤ) (month day : ℕ) → month ≡ 12 → day ≤ days_in_month year month → days_in_month year month ≤ day → day ≡ 31
december year month day e low high =
    let length : days_in_month year month ≡ 31 = rw e refl in
    omega arith

-- the same year, month and day make the same number
same_number : (d : Date) (year : ℤ) (month day : ℕ) → d.year ≡ year → d.month ≡ month → d.day ≡ day → epoch_day d ≡ days_from_civil year month day
same_number d year month day e f g = rw (e, f, g) refl

next_dated : (day : ℤ) → IsDated day → day <ℤ last_day → IsDated (day +ℤ pos 1)
next_dated day is h =
    let d = is.date in
    elim (cases_lt d.day (days_in_month d.year d.month)) [
      | inl short ↦ record {
        date = record { year = d.year; month = d.month; day = d.day + 1; year_in = d.year_in; month_in = d.month_in; day_in = (omega arith, omega arith) };
        number = omega (arith, signed_arith, is.number, days_from_civil-day d.year d.month d.day (d.day + 1) d.day_in.0 (omega arith));
        year = is.year;
      }
      | inr full ↦ elim (cases_lt d.month 12) [
        | inl early ↦
            let long = days_in_month_bounds d.year (d.month + 1) in
            record {
              date = record { year = d.year; month = d.month + 1; day = 1; year_in = d.year_in; month_in = (omega arith, omega arith); day_in = (omega arith, omega arith) };
              number = days_from_civil-next_month d.year d.month d.day d.month_in.0 (omega (arith, d.day_in)) ∙ omega (arith, signed_arith, is.number);
              year = is.year;
            }
        | inr late ↦
            let last_month : d.month ≡ 12 = omega (arith, d.month_in) in
            let last : d.day ≡ 31 = december d.year d.month d.day last_month d.day_in.1 full in
            let before : d.year <ℤ pos 9999 = by_lt_z d.year (pos 9999) (λ lt. lt)
            (λ ge. let year : d.year ≡ pos 9999 = omega (arith, signed_arith, d.year_in) in
            absurd (omega (arith, signed_arith, is.number, same_number d (pos 9999) 12 31 year last_month last, days_from_civil-max))) in
            let long = days_in_month_bounds (d.year +ℤ pos 1) 1 in
            record {
              date = record { year = d.year +ℤ pos 1; month = 1; day = 1; year_in = omega (arith, signed_arith, d.year_in); month_in = (omega arith, omega arith); day_in = (omega arith, omega arith) };
              number = days_from_civil-next_year d.year (d.year +ℤ pos 1) (omega (arith, signed_arith, d.year_in)) refl ∙ omega (arith, signed_arith, is.number, same_number d d.year 12 31 refl last_month last);
              year = omega (arith, signed_arith, is.year);
            }
      ]
    ]

pub days_from_civil-first : days_from_civil (pos 1) 1 1 ≡ first_day
unfolding days_from_civil day_count days_of_years days_of_months
days_from_civil-first = refl

dated_from : (n : ℕ) → n ≤ 3_652_058 → IsDated (first_day +ℤ pos n)
dated_from zero h = record {
  date = record { year = pos 1; month = 1; day = 1; year_in = search rules; month_in = search rules; day_in = search rules };
  number = days_from_civil-first;
  year = search rules;
}
dated_from (suc n) h =
    let next : first_day +ℤ pos n +ℤ pos 1 ≡ first_day +ℤ pos (suc n) = omega (arith, signed_arith) in
    subst IsDated next (next_dated (first_day +ℤ pos n) (dated_from n (omega arith)) (omega (arith, signed_arith)))

-- each day of the years 1 to 9999 is that of a date
pub dated : (day : ℤ) → IsDay day → IsDated day
dated day h =
    let n = unsigned_abs (day -ℤ first_day) in
    let is : first_day +ℤ pos n ≡ day = omega (arith, signed_arith, one_part (day -ℤ first_day)) in
    subst IsDated is (dated_from n (omega (arith, signed_arith, one_part (day -ℤ first_day))))

-- the counts give the year, the month and the day of the date that has this number
pub parts_of : (d : Date) (day : ℤ) → IsDay day → epoch_day d ≡ day → (d.year ≡ pos (year_of day)) × (d.month ≡ month_of day) × (d.day ≡ monthday_of day)
parts_of d day h e =
    let year : pos 1 ≤ℤ d.year = by_lt_z d.year (pos 1)
    (λ lt. absurd (omega (arith, signed_arith, e, h, days_from_civil-first, year_ahead d (pos 1) lt)))
    (λ ge. ge) in
    rw (← e) (sym (year_of-date d year), sym (month_of-date d year), sym (monthday_of-date d year))

-- a date from the year 1 on has the number of such a day
pub epoch_day_is : (d : Date) → pos 1 ≤ℤ d.year → IsDay (epoch_day d)
epoch_day_is d from =
    let first = year_begun d (pos 1) from (first_of 1 (omega arith)) in
    omega (arith, signed_arith, days_from_civil-first, first, epoch_day_range d)

-- so they make a date of the calendar, which has this number
pub civil_parts : (day : ℤ) → IsDay day → IsCivilDate (pos (year_of day)) (month_of day) (monthday_of day) × (1 ≤ year_of day) × (days_from_civil (pos (year_of day)) (month_of day) (monthday_of day) ≡ day)
civil_parts day h =
    let is = dated day h in
    let p = parts_of is.date day h is.number in
    let year : 1 ≤ year_of day = omega (arith, signed_arith, p.0, is.year) in
    let number : days_from_civil (pos (year_of day)) (month_of day) (monthday_of day) ≡ day = rw (← p.0, ← p.1, ← p.2) is.number in
    (rw (p.0, p.1, p.2) at (civil is.date), year, number)

-- and a date of the calendar from the year 1 on has the number of such a day, with these parts
pub civil_day : (year month day : ℕ) → 1 ≤ year → IsCivilDate (pos year) month day → IsDay (days_from_civil (pos year) month day) × (year_of (days_from_civil (pos year) month day) ≡ year) × (month_of (days_from_civil (pos year) month day) ≡ month) × (monthday_of (days_from_civil (pos year) month day) ≡ day)
civil_day year month day low h =
    let d : Date = record { year = pos year; month = month; day = day; year_in = h.0; month_in = h.1; day_in = h.2 } in
    let from : pos 1 ≤ℤ d.year = omega (arith, signed_arith) in
    let year_is : year_of (epoch_day d) ≡ year = omega (arith, signed_arith, year_of-date d from) in
    (epoch_day_is d from, year_is, month_of-date d from, monthday_of-date d from)
