use Rattle.hs_turns.proofs.Promised.{first}
use Rattle.hs_turns.proofs.laws.the_first_claimer_wins.Goals as goal

pub returns : goal.returns
returns c = λ d opening made items n laws stands. first d opening made laws stands items n
