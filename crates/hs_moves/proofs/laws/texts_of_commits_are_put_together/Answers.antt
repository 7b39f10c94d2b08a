use Rattle.hs_moves.proofs.Texts.{makes_since, makes_then}
use Rattle.hs_moves.proofs.laws.texts_of_commits_are_put_together.Goals as goal

pub returns-clause-then : goal.returns-clause-then
returns-clause-then c = makes_then

pub returns-clause-since : goal.returns-clause-since
returns-clause-since c = makes_since
