use Rattle.hs_slots.proofs.Committing.{commits_safe, commits_served}
use Rattle.hs_slots.proofs.laws.commits_are_none_or_all.Goals as goal

pub returns-clause-moments : goal.returns-clause-moments
returns-clause-moments c = commits_safe

pub returns-clause-served : goal.returns-clause-served
returns-clause-served c = commits_served
