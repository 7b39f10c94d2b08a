use Rattle.hs_tied.proofs.Waiting.{freed_ways}
use Rattle.hs_moves.proofs.Steps.{commit_done, commit_empty}
use Rattle.hs_controls.proofs.laws.an_own_commit_ends_the_transaction.Goals as goal

pub returns-clause-unchanged : goal.returns-clause-unchanged
returns-clause-unchanged c = λ w m s o found e. commit_empty w m s o found e

pub returns-clause-committed : goal.returns-clause-committed
returns-clause-committed c = λ w m s o found e. commit_done w m s o found e

pub returns-clause-ways : goal.returns-clause-ways
returns-clause-ways c = freed_ways
