use Rattle.std.proofs.Common.{◌/◌, ◌%◌, FitsSigned, w32, w64, sym, ap, ◌∙◌, arith, rules}
use Rattle.std.proofs.lemmas.Int.{ints, to_z-of_z}
use Rattle.std.proofs.lemmas.List.{take_rest}
use Rattle.hs_temporal.specs.Days.{day_of, time_of}
use Rattle.hs_temporal.specs.Texts.{fraction}
use Rattle.hs_temporal.proofs.StampLemmas.{short_text, stamped, stamp_read, sum-time_of, IsStamped}
use Rattle.hs_temporal.proofs.reading.micros_in.Goals as goal
use Rattle.hs_temporal.proofs.reading.micros_in.Goals.{then-text-lt19-via-then-text-lt19, then-text-lt19-via-else-text-lt19+then-text-ne32}

pub returns-then-text-lt19 : goal.returns-then-text-lt19
returns-then-text-lt19 c = λ micros h e.
    elim c.then-text-lt19.branch [
      | then-text-lt19-via-then-text-lt19 w ↦ short_text c.args.text.now micros (omega arith) e
      | then-text-lt19-via-else-text-lt19+then-text-ne32 w ↦ w.if-text-ne32.true (stamped c.args.text.now micros (omega arith) e).space
    ]

pub returns-in_err-day : goal.returns-in_err-day
returns-in_err-day c =
    rw c.from_residual.ensures (λ micros h e.
    c.in_err-day.ensures (day_of micros) h (stamped c.args.text.now micros (omega arith) e).date)

pub returns-in_err-seconds : goal.returns-in_err-seconds
returns-in_err-seconds c =
    rw c.from_residual-in_err-seconds.ensures (λ micros h e.
    let time = sum-time_of micros in
    c.in_err-seconds.ensures (time_of micros / 1_000_000) (omega arith) (stamped c.args.text.now micros (omega arith) e).clock)

pub returns-in_err-fraction : goal.returns-in_err-fraction
returns-in_err-fraction c =
    rw c.from_residual-in_err-fraction.ensures (λ micros h e.
    let is = stamped c.args.text.now micros (omega arith) e in
    c.in_err-fraction.ensures (time_of micros % 1_000_000) (omega arith) (is.part ∙ ap fraction (sym (take_rest c.args.text.now 19))))

pub returns : goal.returns
returns c =
    let text = c.args.text.now in
    let date = c.in_ok-day.ensures in
    let clock = c.in_ok-seconds.ensures in
    let part = c.in_ok-fraction.ensures in
    let is : IsStamped text c.in_ok-day.day c.in_ok-seconds.seconds c.in_ok-fraction.fraction =
    record { date = date.1; space = c.if-text-ne32.false; clock = clock.1; part = part.1 ∙ ap fraction (take_rest text 19) } in
    let fits_day : FitsSigned w32 c.in_ok-day.day = omega (arith, ints, date.0) in
    let fits : FitsSigned w64 c.micros_at.result = search rules in
    let value = simp to_z-of_z at c.micros_at.ensures in
    simp to_z-of_z (stamp_read text c.in_ok-day.day c.in_ok-seconds.seconds c.in_ok-fraction.fraction c.micros_at.result value (omega arith) date.0 clock.0 part.0 is)
