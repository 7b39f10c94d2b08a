use Rattle.std.proofs.lemmas.Result.{IfOk-weaker}
use Rattle.hs_asking.proofs.AtOnce.{admitted_by}
use Rattle.hs_asking.proofs.admitting.unless_refused.Goals as goal

pub returns : goal.returns
returns c = IfOk-weaker c.unless.result _ _ (λ told so. admitted_by c.args.read_only c.args.plan c.reason-why.result c.reason-why.ensures told so) c.unless.ensures
