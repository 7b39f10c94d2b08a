use Rattle.hs_asking.proofs.AtOnce.{kept, refused}
use Rattle.hs_asking.proofs.admitting.reason.Goals as goal

pub returns-then-refused : goal.returns-then-refused
returns-then-refused c = refused c.args.read_only c.args.plan.now c.in_ok-why.why c.is_refused-refused.result c.is_refused-refused.ensures c.if-refused.true c.in_ok-why.ensures

pub returns : goal.returns
returns c = kept c.args.read_only c.args.plan.now c.is_refused-refused.result c.is_refused-refused.ensures c.if-refused.false
