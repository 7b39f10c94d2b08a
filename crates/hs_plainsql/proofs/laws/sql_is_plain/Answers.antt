use Rattle.hs_plainsql.proofs.Sql.{sql_plain}
use Rattle.hs_plainsql.proofs.laws.sql_is_plain.Goals as goal

pub returns : goal.returns
returns c = sql_plain
