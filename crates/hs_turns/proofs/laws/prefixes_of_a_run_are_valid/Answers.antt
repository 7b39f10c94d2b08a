use Rattle.hs_turns.proofs.Promised.{valid}
use Rattle.hs_turns.proofs.laws.prefixes_of_a_run_are_valid.Goals as goal

pub returns : goal.returns
returns c = λ d opening made items n k laws stands. valid d opening made laws stands items n k
