use Rattle.std.proofs.Common.{◌∙◌}
use Rattle.hs_transactions.proofs.transactions.Transactions.tidy.Goals as goal

pub release-requires : goal.release-requires
release-requires g c = c.requires

pub forget_claims-requires : goal.forget_claims-requires
forget_claims-requires g c = let x = c.requires in (x.0, x.1, c.release.ensures.fits x.0 x.1 x.2)

pub forget_claims-requires-in-None : goal.forget_claims-requires-in-None
forget_claims-requires-in-None g c = c.requires

pub returns-in-Some-clause-fits : goal.returns-in-Some-clause-fits
returns-in-Some-clause-fits g c = λ w k fits. c.forget_claims.ensures.fits w k (c.release.ensures.fits w k fits)

pub returns-in-None-clause-fits : goal.returns-in-None-clause-fits
returns-in-None-clause-fits g c = λ w k fits. c.forget_claims-in-None.ensures.fits w k fits

pub returns-in-Some-clause-holding : goal.returns-in-Some-clause-holding
returns-in-Some-clause-holding g c = c.forget_claims.ensures.holding ∙ c.release.ensures.holding
