use Rattle.std.proofs.Common.{◌≡◌, FitsSigned, w32, w64, ◌∙◌, arith}
use Rattle.std.proofs.lemmas.Int.{ints, to_z-of_z}
use Rattle.jiff_core.specs.Date.{epoch_day}
use Rattle.hs_temporal.proofs.DayLemmas.{parts_of}
use Rattle.hs_temporal.proofs.calendar.date_of.Goals as goal

is_date : (c : goal.In-Ok) → epoch_day c.in-Ok.date ≡ c.args.day
is_date c =
    let fits_day : FitsSigned w32 c.args.day = c.ranges.day in
    let from = simp to_z-of_z at c.from.ensures in
    let wide : FitsSigned w64 c.from.result = omega (arith, ints) in
    let told = simp to_z-of_z at c.in-Ok.ensures.value in
    told ∙ from

pub returns-clause-year : goal.returns-clause-year
returns-clause-year c = (parts_of c.in-Ok.date c.args.day c.requires (is_date c)).0

pub returns-clause-month : goal.returns-clause-month
returns-clause-month c = (parts_of c.in-Ok.date c.args.day c.requires (is_date c)).1

pub returns-clause-day : goal.returns-clause-day
returns-clause-day c = (parts_of c.in-Ok.date c.args.day c.requires (is_date c)).2
