use Rattle.hs_language.specs.Sql.{sql}
use Rattle.hs_turns.proofs.Promised.{valid}
use Rattle.hs_reading.proofs.Meets.{meets}
use Rattle.hs_reading.proofs.promises.prefixes_of_a_run_of_sql_are_valid.Goals as goal

pub returns : goal.returns
returns c = λ r opening made items n k bound stands. valid (sql r) opening made (meets r bound) stands items n k
