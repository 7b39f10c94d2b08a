use Rattle.hs_engine.proofs.Runs.{committed, first, in_order, made_by, serial, snapshot, valid}
use Rattle.hs_engine.proofs.laws.runs_of_sql_keep_their_models.Goals as goal

pub returns-clause-serial : goal.returns-clause-serial
returns-clause-serial c = λ opened size items n s. serial opened size items s n

pub returns-clause-in_order : goal.returns-clause-in_order
returns-clause-in_order c = λ opened size items n s. in_order opened size items s n

pub returns-clause-committed : goal.returns-clause-committed
returns-clause-committed c = λ opened size items n s. committed opened size items s n

pub returns-clause-made_by : goal.returns-clause-made_by
returns-clause-made_by c = λ opened size items n s. made_by opened size items s n

pub returns-clause-snapshot : goal.returns-clause-snapshot
returns-clause-snapshot c = λ opened size items n s. snapshot opened size items s n

pub returns-clause-first : goal.returns-clause-first
returns-clause-first c = λ opened size items n s. first opened size items s n

pub returns-clause-valid : goal.returns-clause-valid
returns-clause-valid c = λ opened size items n k s. valid opened size items s n k
