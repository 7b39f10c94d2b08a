-- What an engine of SQL stands for.
use Rattle.std.specs.Prelude.{◌≡◌}
use Rattle.hs_instance.specs.Lawful.{stands_for}
use Rattle.hs_logged.specs.Read.{StandsFor}
use Rattle.hs_program.specs.Meaning.{Meaning, Opened}
use Rattle.hs_system.specs.Meaning.{meaning_of, state_of}
use Rattle.hs_engine.specs.Sql.{sql_system}
use Rattle.hs_engine.specs.declared.engine.SqlEngine.{SqlEngine}

-- SQL as the database of a run
abbrev pub sql_meaning : Meaning
sql_meaning = meaning_of sql_system

-- its database is that which texts made, with the session of the last of them, and it counts them
pub record Stands (e : SqlEngine) (opened : Opened) : Type 0 where
  pub held : StandsFor stands_for e.replay.database e.replay.last (state_of opened)
  pub counted : e.commits ≡ opened.commits
