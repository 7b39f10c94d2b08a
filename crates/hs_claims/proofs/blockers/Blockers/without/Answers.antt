use Rattle.hs_claims.proofs.Bits.{is_set-without}
use Rattle.hs_claims.proofs.blockers.Blockers.without.Goals as goal

pub returns : goal.returns
returns c = λ s h. is_set-without c.args.self.0 c.args.session.0 c.requires s h
