use Rattle.hs_language.specs.Sql.{sql}
use Rattle.hs_turns.proofs.Promised.{first}
use Rattle.hs_reading.proofs.Meets.{meets}
use Rattle.hs_reading.proofs.promises.the_first_claimer_of_sql_wins.Goals as goal

pub returns : goal.returns
returns c = λ r opening made items n bound stands. first (sql r) opening made (meets r bound) stands items n
