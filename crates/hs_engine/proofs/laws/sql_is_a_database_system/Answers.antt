use Rattle.hs_engine.specs.Meets.{sql_governed}
use Rattle.hs_engine.proofs.laws.sql_is_a_database_system.Goals as goal

pub returns : goal.returns
returns c = sql_governed
