use Rattle.hs_log.proofs.Logs.{on_err, unborn_or_new}
use Rattle.hs_log.proofs.log.Log.make.Goals as goal

pub returns-in_err-gated-clause-begun : goal.returns-in_err-gated-clause-begun
returns-in_err-gated-clause-begun g c = λ told unborn. on_err _ (unborn_or_new _ (c.in_err-gated.ensures.err told unborn))
