-- SQL is what a run asks of a database.
use Rattle.hs_plainsql.specs.Naming.{are_named}
use Rattle.hs_program.specs.Lawful.{IsLawful}
use Rattle.hs_system.proofs.Lawful.{lawful}
use Rattle.hs_engine.specs.Meets.{sql_governed}
use Rattle.hs_engine.specs.Sql.{IsRegular, sql_system}
use Rattle.hs_engine.specs.Standing.{sql_meaning}

pub sql_lawful : IsLawful sql_meaning
sql_lawful = lawful are_named IsRegular sql_system sql_governed
