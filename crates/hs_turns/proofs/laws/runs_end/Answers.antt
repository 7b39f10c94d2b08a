use Rattle.std.proofs.Common.{arith}
use Rattle.hs_turns.specs.Turns.{weight}
use Rattle.hs_turns.proofs.Ends.{turn_lowers, over}
use Rattle.hs_turns.proofs.laws.runs_end.Goals as goal

pub returns-clause-lowers : goal.returns-clause-lowers
returns-clause-lowers c = turn_lowers

pub returns-clause-over : goal.returns-clause-over
returns-clause-over c = λ d opening made m. over d opening made (weight m) m (omega arith)
