use Rattle.std.proofs.Common.{arith}
use Rattle.hs_decimal.proofs.LongDivision.{one_place, too_long}
use Rattle.hs_decimal.proofs.division.quotient.Goals as goal

pub returns-then-whole-ge-FULL : goal.returns-then-whole-ge-FULL
returns-then-whole-ge-FULL c = λ few.
    let l = c.loop-place in
    omega (arith, too_long c.args.n c.args.divisor l.whole l.rest l._place c.args.zeros c.requires.nonzero l.invariant.so_far (omega arith) (omega arith))

pub loop-place-preserved : goal.loop-place-preserved
loop-place-preserved c =
    let l = c.loop-place in
    let t = c.next_digit-digit in
    record {
      so_far = one_place c.args.n c.args.divisor l.whole l.rest t.result.0 t.result.1 l._place l.invariant.so_far t.ensures.whole;
      below = t.ensures.below;
      short = omega arith;
    }
