use Rattle.hs_claims.proofs.Bits.{is_set-with, greater}
use Rattle.hs_claims.proofs.blockers.Blockers.with.Goals as goal

pub returns-clause-members : goal.returns-clause-members
returns-clause-members c = λ s h. is_set-with c.args.self.0 c.args.session.0 c.requires s h

pub returns-clause-greater : goal.returns-clause-greater
returns-clause-greater c = greater c.args.self.0 c.args.session.0
