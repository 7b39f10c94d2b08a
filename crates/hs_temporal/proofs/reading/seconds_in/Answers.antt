use Rattle.std.proofs.Common.{◌/◌, ◌%◌, sym, ◌∙◌, arith}
use Rattle.hs_temporal.proofs.StampLemmas.{clock_text-fields, clock_text-is, clock_text-only}
use Rattle.hs_temporal.proofs.reading.seconds_in.Goals as goal
use Rattle.hs_temporal.proofs.reading.seconds_in.Goals.{then-hour-gt23-via-then-hour-gt23, then-hour-gt23-via-else-hour-gt23+then-minute-gt59, then-hour-gt23-via-else-hour-gt23+else-minute-gt59+then-second-gt59}

pub returns-in_err-hour : goal.returns-in_err-hour
returns-in_err-hour c =
    rw c.from_residual.ensures (λ n small e.
    c.in_err-hour.ensures (n / 3600) (n / 60 % 60) (n % 60) (sym (clock_text-fields n) ∙ e))

pub returns-then-hour-gt23 : goal.returns-then-hour-gt23
returns-then-hour-gt23 c = λ n small e.
    let f = c.in_ok-hour.ensures in
    let is = clock_text-only c.args.text.now c.in_ok-hour.hour c.in_ok-hour.minute c.in_ok-hour.second (f.0, f.1, f.2) f.3 n small e in
    elim c.then-hour-gt23.branch [
      | then-hour-gt23-via-then-hour-gt23 w ↦ omega (arith, is)
      | then-hour-gt23-via-else-hour-gt23+then-minute-gt59 w ↦ omega (arith, is)
      | then-hour-gt23-via-else-hour-gt23+else-minute-gt59+then-second-gt59 w ↦ omega (arith, is)
    ]

pub returns : goal.returns
returns c =
    let f = c.in_ok-hour.ensures in
    (omega arith, clock_text-is c.in_ok-hour.hour c.in_ok-hour.minute c.in_ok-hour.second (omega arith) (omega arith) ∙ f.3)
