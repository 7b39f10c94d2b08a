use Rattle.hs_machine.proofs.Machine.{ends}
use Rattle.hs_machine.proofs.laws.runs_end.Goals as goal

pub returns : goal.returns
returns g c = λ m s law. ends m law s
