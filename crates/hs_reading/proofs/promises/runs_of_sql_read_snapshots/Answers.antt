use Rattle.hs_language.specs.Sql.{sql}
use Rattle.hs_turns.proofs.Promised.{snapshots}
use Rattle.hs_reading.proofs.Meets.{meets}
use Rattle.hs_reading.proofs.promises.runs_of_sql_read_snapshots.Goals as goal

pub returns : goal.returns
returns c = λ r opening made items n bound stands. snapshots (sql r) opening made (meets r bound) stands items n
