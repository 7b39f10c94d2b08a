use Rattle.hs_moves.proofs.Worlds.{count_more, number_fits}
use Rattle.hs_moves.proofs.laws.commits_have_numbers.Goals as goal

pub returns-clause-count : goal.returns-clause-count
returns-clause-count c = count_more

pub returns-clause-number : goal.returns-clause-number
returns-clause-number c = number_fits
