use Rattle.hs_claims.proofs.Bits.{is_set-both}
use Rattle.hs_claims.proofs.blockers.Blockers.common.Goals as goal

pub returns : goal.returns
returns c = λ s. is_set-both c.args.self.0 c.args.other.0 s
