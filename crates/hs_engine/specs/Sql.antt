-- SQL as a database system.
use Rattle.std.specs.Prelude.{◌≡◌, ◌^◌, Bool, true, List}
use Rattle.hs_applicable.specs.Applicable.{may_make_all}
use Rattle.hs_applicable.specs.SoundDatabase.{IsSoundDatabase}
use Rattle.hs_conditions.specs.Texts.{checks}
use Rattle.hs_turns.specs.Database.{Database}
use Rattle.hs_turns.specs.Histories.{Commit}
use Rattle.hs_instance.specs.Instance.{empty_database, violated_name}
use Rattle.hs_language.specs.Sql.{sql}
use Rattle.hs_plainsql.specs.Naming.{are_named}
use Rattle.hs_reading.specs.Reading.{reading_of}
use Rattle.hs_system.specs.System.{System}
use Rattle.hs_texttest.specs.Commits.{has_text}
use Rattle.hs_turns.specs.Dialect.{Dialect}
use Rattle.hs_engine.specs.Conditions.{has_condition}

-- the language, where the log has this room
abbrev pub sql_with : (List Commit → Commit → Bool) → Dialect
sql_with room = sql (reading_of room)

-- SQL as it is read, over logs of at most 2^30 bytes.
abbrev pub sql_system : System
sql_system = record {
  dialect = sql_with;
  wording = checks;
  has_text = has_text checks has_condition;
  may_make = may_make_all;
  empty = empty_database;
  violated = violated_name;
  limit = 2 ^ 30;
}

-- What is so of each database that the texts of a log made: things and rows are numbered by the changes that made them, the catalogue
-- is sound, each row fits its columns, and constraints have names without line feeds. Its model is whichever a definition set.
pub record IsRegular (db : Database) : Type 0 where
  pub sound : IsSoundDatabase db
  pub named : are_named db.things ≡ true
