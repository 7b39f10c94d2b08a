-- What every database meets that such changes made.
use Rattle.std.specs.Prelude.{◌≡◌, ◌&&◌, Bool, true}
use Rattle.hs_turns.specs.Database.{Database, IsNumbered}
use Rattle.hs_language.specs.Sound.{is_sound}
use Rattle.hs_language.specs.Sql.{are_numbered}
use Rattle.hs_language.specs.Validity.{all_fit}

-- things are numbered by the changes that made them, the catalogue is sound, and each row fits its columns
abbrev pub is_sound_database : Database → Bool
is_sound_database db = are_numbered db && (is_sound db.things && all_fit db)

-- and so are rows
pub record IsSoundDatabase (db : Database) : Type 0 where
  pub sound : is_sound_database db ≡ true
  pub numbered : IsNumbered db
