use Rattle.std.proofs.Common.{FitsSigned, w32, w64, pos, ◌≤ℤ◌, ◌<ℤ◌, inl, inr, Ok, true≢false, sym, ap, ◌∙◌, arith, rules}
use Rattle.std.proofs.lemmas.Int.{ints, to_z-of_z}
use Rattle.hs_temporal.proofs.DayLemmas.{epoch_day_is}
use Rattle.hs_temporal.proofs.MoveLemmas.{no_date, later_date, early_date, far, IsDateOf}
use Rattle.hs_temporal.proofs.moves.plus_months.Goals as goal
use Rattle.hs_temporal.proofs.moves.plus_months.Goals.{then-n-via-then-n, then-n-via-else-n+then-n-gt-MOST_MONTHS}

pub returns-then-n-clause-value : goal.returns-then-n-clause-value
returns-then-n-clause-value c =
    sym (far c.args.day c.args.n c.requires (elim c.then-n.branch [
      | then-n-via-then-n w ↦ inl (omega (arith, ints))
      | then-n-via-else-n+then-n-gt-MOST_MONTHS w ↦ inr (omega (arith, ints))
    ]))

pub returns-in-Ok-clause-value : goal.returns-in-Ok-clause-value
returns-in-Ok-clause-value c =
    let fits_day : FitsSigned w32 c.args.day = c.ranges.day in
    let fits_wide : FitsSigned w64 c.args.n = c.ranges.n in
    let fits_n : FitsSigned w32 c.args.n = omega (arith, ints) in
    let fits_sum : FitsSigned w32 c.to_unix_epoch_day.result = search rules in
    let low : pos 1 ≤ℤ c.in-Ok.later.year = omega (arith, ints) in
    let is : IsDateOf c.date_of.result c.args.day = record { years = simp to_z-of_z at c.date_of.ensures.year; months = simp to_z-of_z at c.date_of.ensures.month; days = simp to_z-of_z at c.date_of.ensures.day } in
    let month = simp to_z-of_z at c.in-Ok.ensures.month in
    let sum = simp to_z-of_z at c.in-Ok.ensures.value in
    simp to_z-of_z (ap Ok c.to_unix_epoch_day.ensures.value ∙ later_date c.date_of.result c.in-Ok.later c.args.day c.args.n is month sum low)

pub returns-in-Ok-clause-range : goal.returns-in-Ok-clause-range
returns-in-Ok-clause-range c =
    let fits_sum : FitsSigned w32 c.to_unix_epoch_day.result = search rules in
    let low : pos 1 ≤ℤ c.in-Ok.later.year = omega (arith, ints) in
    omega (arith, ints, c.to_unix_epoch_day.ensures.value, epoch_day_is c.in-Ok.later low)

pub returns-in_default-clause-value : goal.returns-in_default-clause-value
returns-in_default-clause-value c =
    let fits_day : FitsSigned w32 c.args.day = c.ranges.day in
    let fits_wide : FitsSigned w64 c.args.n = c.ranges.n in
    let fits_n : FitsSigned w32 c.args.n = omega (arith, ints) in
    let low : c.in-Ok.later.year <ℤ pos 1 = omega (arith, ints) in
    let is : IsDateOf c.date_of.result c.args.day = record { years = simp to_z-of_z at c.date_of.ensures.year; months = simp to_z-of_z at c.date_of.ensures.month; days = simp to_z-of_z at c.date_of.ensures.day } in
    let month = simp to_z-of_z at c.in-Ok.ensures.month in
    early_date c.date_of.result c.in-Ok.later c.args.day c.args.n is month low

pub returns-in_default-2-clause-value : goal.returns-in_default-2-clause-value
returns-in_default-2-clause-value c =
    let fits_day : FitsSigned w32 c.args.day = c.ranges.day in
    let fits_wide : FitsSigned w64 c.args.n = c.ranges.n in
    let fits_n : FitsSigned w32 c.args.n = omega (arith, ints) in
    let is : IsDateOf c.date_of.result c.args.day = record { years = simp to_z-of_z at c.date_of.ensures.year; months = simp to_z-of_z at c.date_of.ensures.month; days = simp to_z-of_z at c.date_of.ensures.day } in
    let told = simp to_z-of_z at c.in_default.ensures.succeeds in
    no_date c.date_of.result c.args.day c.args.n is (λ shiftable. true≢false (sym (told.1 shiftable)))
