use Rattle.std.proofs.Math.Facts.{Fits-lt-pow}
use Rattle.hs_claims.proofs.Bits.{zero_is_none, first_of}
use Rattle.hs_claims.proofs.blockers.first_in.Goals as goal

pub returns-then-bits-eq0 : goal.returns-then-bits-eq0
returns-then-bits-eq0 c = λ s h. zero_is_none c.args.bits c.if-bits-eq0.true s

pub returns : goal.returns
returns c = let first = first_of c.args.bits c.if-bits-eq0.false (Fits-lt-pow c.ranges.bits) in (first.session, first.there, first.before)
