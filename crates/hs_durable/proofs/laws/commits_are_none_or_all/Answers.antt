use Rattle.hs_durable.proofs.Durable.{commits_safe, commits_served, settled_safe, counted}
use Rattle.hs_durable.proofs.laws.commits_are_none_or_all.Goals as goal

pub returns-clause-moments : goal.returns-clause-moments
returns-clause-moments c = commits_safe

pub returns-clause-served : goal.returns-clause-served
returns-clause-served c = commits_served

pub returns-clause-settled : goal.returns-clause-settled
returns-clause-settled c = settled_safe

pub returns-clause-counted : goal.returns-clause-counted
returns-clause-counted c = counted
