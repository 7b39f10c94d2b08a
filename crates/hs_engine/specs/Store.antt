-- What a store of SQL stands for.
use Rattle.std.specs.Prelude.{◌≡◌, true, List}
use Rattle.hs_turns.specs.Database.{Database, view}
use Rattle.hs_entering.specs.Taken.{IsKept}
use Rattle.hs_turns.specs.Histories.{Commit}
use Rattle.hs_instance.specs.Instance.{IsInstance}
use Rattle.hs_instance.specs.declared.instance.Instance.{Instance}
use Rattle.hs_language.specs.Sql.{is_valid, sql}
use Rattle.hs_logged.specs.Logged.{IsBehind}
use Rattle.hs_logged.specs.declared.logbook.Logbook.{Logbook}
use Rattle.hs_plan.specs.declared.change.Change.{Change}
use Rattle.hs_reading.specs.Reading.{reading_of}
use Rattle.hs_instance.specs.Lawful.{IsLawful, takes}
use Rattle.hs_tabletext.specs.Conditions.{Wording}
use Rattle.hs_seams.specs.Stores.{IsWorld, present}
use Rattle.hs_seams.specs.World.{World}

-- ---- worlds of SQL

-- its entries mean what SQL says
abbrev pub SpeaksSql : World → Type 0
SpeaksSql w = w.run.dialect ≡ sql (reading_of w.run.dialect.has_log_room)

-- Its entries mean what SQL says. Its commits have their texts in a log that is so at its start, which has room for those that may
-- be made again. Runs over it keep what their model promises.
pub record IsSqlWorld (wording : Wording) (start : Logbook) (w : World) : Type 0 where
  pub speaks : SpeaksSql w
  pub kept : IsKept wording takes start w
  pub world : IsWorld w

-- ---- the store

-- a database in memory is that behind these commits, with these changes of a transaction on it
abbrev pub IsHere : Instance → World → List Commit → List Change → Type 0
IsHere i w commits seated = IsInstance (present w commits) seated i

-- Such is the database of a store, which is sound, and the log is so behind these commits.
pub record Stands (wording : Wording) (i : Instance) (book : Logbook) (w : World) (commits : List Commit) (seated : List Change) : Type 0 where
  pub start : Logbook
  pub world : IsSqlWorld wording start w
  pub lawful : IsLawful seated i (present w commits)
  pub behind : IsBehind start w commits book

-- a database in memory is valid, with the changes of a transaction that are on it
pub record IsValid (i : Instance) : Type 0 where
  pub db : Database
  pub seated : List Change
  pub lawful : IsLawful seated i db
  pub valid : is_valid (view db seated) ≡ true
