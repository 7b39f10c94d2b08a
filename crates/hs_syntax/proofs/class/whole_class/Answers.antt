use Rattle.std.proofs.Common.{arith}
use Rattle.hs_syntax.proofs.Digits.{too_wide}
use Rattle.hs_syntax.proofs.class.whole_class.Goals as goal

pub returns-then-value-gt4000 : goal.returns-then-value-gt4000
returns-then-value-gt4000 c =
    too_wide c.loop-digit.value c.loop-digit.digit-index _ c.args.digits.now (omega arith) c.loop-digit.invariant.means (omega (arith, c.from.ensures, c.saturating_sub.ensures)) c.if-value-gt4000.true
