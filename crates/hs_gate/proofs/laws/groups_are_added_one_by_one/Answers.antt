use Rattle.hs_gate.proofs.Anew.{added_on}
use Rattle.hs_gate.proofs.laws.groups_are_added_one_by_one.Goals as goal

pub returns : goal.returns
returns c = λ end first more le. added_on c.args.bytes.now end first more le
