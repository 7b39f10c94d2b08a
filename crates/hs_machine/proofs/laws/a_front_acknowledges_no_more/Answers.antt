use Rattle.hs_machine.proofs.Acknowledged.{fewer}
use Rattle.hs_machine.proofs.laws.a_front_acknowledges_no_more.Goals as goal

pub returns : goal.returns
returns c = fewer
