use Rattle.hs_machine.proofs.Acknowledged.{line_says}
use Rattle.hs_machine.proofs.laws.lines_end_once.Goals as goal

pub returns : goal.returns
returns c = λ line plain. (line_says line plain).plain
