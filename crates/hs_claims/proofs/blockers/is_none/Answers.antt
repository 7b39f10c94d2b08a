use Rattle.std.proofs.Common.{eqb-true, eq-eqb}
use Rattle.std.proofs.Math.Facts.{Fits-lt-pow}
use Rattle.hs_claims.proofs.Bits.{none_is_zero, zero_is_none}
use Rattle.hs_claims.proofs.blockers.is_none.Goals as goal

pub returns : goal.returns
returns c = (λ zero s h. zero_is_none c.args.bits (eqb-true c.args.bits 0 zero) s, λ none. eq-eqb c.args.bits 0 (none_is_zero c.args.bits (Fits-lt-pow c.ranges.bits) none))
