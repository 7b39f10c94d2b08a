use Rattle.hs_language.specs.Sql.{sql}
use Rattle.hs_turns.proofs.Promised.{serial, ordered, committed, made_by}
use Rattle.hs_reading.proofs.Meets.{meets}
use Rattle.hs_reading.proofs.promises.runs_of_sql_are_serial.Goals as goal

pub returns-clause-alone : goal.returns-clause-alone
returns-clause-alone c = λ r opening made items n bound stands. serial (sql r) opening made (meets r bound) stands items n

pub returns-clause-in_order : goal.returns-clause-in_order
returns-clause-in_order c = λ r opening made items n bound stands. ordered (sql r) opening made (meets r bound) stands items n

pub returns-clause-committed : goal.returns-clause-committed
returns-clause-committed c = λ r opening made items n bound stands. committed (sql r) opening made (meets r bound) stands items n

pub returns-clause-made_by : goal.returns-clause-made_by
returns-clause-made_by c = λ r opening made items n bound stands. made_by (sql r) opening made (meets r bound) stands items n
