-- That SQL meets what is asked of a database system.
use Rattle.std.proofs.Common.{◌≡◌, Bool, true, List, Option, refl}
use Rattle.hs_applicable.proofs.Keeping.{all_sound}
use Rattle.hs_base.specs.declared.numbers.SessionNo.{SessionNo}
use Rattle.hs_committext.specs.Commits.{IsCommitText}
use Rattle.hs_conditions.specs.Texts.{checks}
use Rattle.hs_turns.specs.Database.{Database, apply}
use Rattle.hs_turns.specs.Histories.{Commit}
use Rattle.hs_instance.specs.Instance.{empty_database}
use Rattle.hs_plainsql.specs.Naming.{are_named}
use Rattle.hs_plan.specs.declared.change.Change.{Change}
use Rattle.hs_reading.specs.Reading.{reading_of}
use Rattle.hs_reading.proofs.PlainSql.{sql_plain_as_read}
use Rattle.hs_reading.proofs.Readings.{is_bound, is_reading}
use Rattle.hs_instance.proofs.Valid.{empty_sound, none_named, valid_unnamed}
use Rattle.hs_schema.specs.Catalogue.{Text}
use Rattle.hs_reading.proofs.Meets.{meets}
use Rattle.hs_engine.specs.Sql.{IsRegular, sql_system, sql_with}
use Rattle.hs_engine.specs.Tested.{commits_tested}
use Rattle.hs_system.specs.Governed as system
use Rattle.hs_system.specs.Governed.{IsGoverned, IsLanguage}
use Rattle.hs_textnames.proofs.Names.{commit_named}

language_is : (room : List Commit → Commit → Bool) → IsLanguage are_named room (sql_with room)
language_is room = record {
  room_ = λ commits k. refl;
  laws = meets (reading_of room) (is_bound (reading_of room) (is_reading room));
  plain = sql_plain_as_read room;
}

regular_is : (db : Database) → IsRegular db → system.IsRegular are_named sql_system db
regular_is db r = record {
  named = r.named;
  rows = r.sound.numbered;
  valid = λ room clean. valid_unnamed db r.sound clean;
}

empty_is : IsRegular empty_database
empty_is = record { sound = empty_sound; named = refl }

kept_is : (db : Database) (before : Option SessionNo) (text : Text) (session : SessionNo) (changes : List Change) → IsRegular db → IsCommitText checks db.things before text session changes → sql_system.may_make db changes ≡ true → IsRegular (apply db changes)
kept_is db before text session changes r of may = record {
  sound = all_sound db changes r.sound may;
  named = commit_named checks db before text session changes of r.named;
}

pub sql_governed : IsGoverned are_named IsRegular sql_system
sql_governed = record {
  language = language_is;
  texts = commits_tested;
  regular = regular_is;
  valid = λ room db valid. none_named db valid;
  empty = empty_is;
  clean = none_named empty_database refl;
  kept = kept_is;
}
