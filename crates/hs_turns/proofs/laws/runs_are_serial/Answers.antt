use Rattle.hs_turns.proofs.Promised.{serial, ordered, committed, made_by}
use Rattle.hs_turns.proofs.laws.runs_are_serial.Goals as goal

pub returns-clause-alone : goal.returns-clause-alone
returns-clause-alone c = λ d opening made items n laws stands. serial d opening made laws stands items n

pub returns-clause-in_order : goal.returns-clause-in_order
returns-clause-in_order c = λ d opening made items n laws stands. ordered d opening made laws stands items n

pub returns-clause-committed : goal.returns-clause-committed
returns-clause-committed c = λ d opening made items n laws stands. committed d opening made laws stands items n

pub returns-clause-made_by : goal.returns-clause-made_by
returns-clause-made_by c = λ d opening made items n laws stands. made_by d opening made laws stands items n
