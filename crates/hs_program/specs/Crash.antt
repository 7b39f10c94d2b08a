-- What a crash leaves of the database while a run is at work.
use Rattle.std.specs.Prelude.{◌≡◌, ◌⊎◌, ℕ, List, take}
use Rattle.hs_durable.specs.Durable.{Point, IsBirth, Survives as PointSurvives}
use Rattle.hs_host.specs.Disk.{Leaves, settled}
use Rattle.hs_host.specs.Files.{Five, with_}
use Rattle.hs_host.specs.Moments.{Moment, disk_of}
use Rattle.hs_host.specs.declared.file_kind.FileKind.TheVariants.{Log}
use Rattle.hs_run.specs.Crash.{AcknowledgesBehind, HasNoLine}
use Rattle.hs_run.specs.Prompt.{IsUnasked}
use Rattle.hs_program.specs.Ahead.{after_commits, ahead, texts_from}
use Rattle.hs_program.specs.Meaning.{Meaning, Opened}
use Rattle.hs_program.specs.Opening.{AreRedone, IsOpened, texts_at}

-- what a log stands for: its texts, none where it isn't born
abbrev pub point_of : List ℕ → Point
point_of log = record { epoch = 1; logged = texts_at log }

-- the log was all on the disk
abbrev pub IsQuiet : Five (List ℕ) → Moment → Type 0
IsQuiet files m = disk_of m Log ≡ settled files.log

-- These bytes of a log have the commits that a run found, and then the first so many of those that it makes. The next run
-- begins with what there is behind these. No later commit was acknowledged, and until the first line is whole none of the run's own is
-- among them.
pub record Survives (m : Meaning) (old : List ℕ) (opened : Opened) (input before out log : List ℕ) : Type 0 where
  pub by : PointSurvives (point_of old) (texts_from (ahead m old opened) input) 0 (point_of log)
  pub made : AreRedone m opened (take by.count (texts_from (ahead m old opened) input)) (after_commits m old opened input by.count)
  pub reopens : IsOpened m log (after_commits m old opened input by.count)
  pub told : AcknowledgesBehind before out (after_commits m old opened input by.count).commits
  pub begun : HasNoLine before out → by.count ≡ 0

-- so it is whatever a crash at this moment leaves of the log
abbrev pub IsSafe : Meaning → List ℕ → Opened → List ℕ → List ℕ → Moment → Type 0
IsSafe m old opened input before at = (log : List ℕ) → Leaves (disk_of at Log) log → Survives m old opened input before at.out log

-- At a moment of a run that began with these files: a log that wasn't born is being made, or all survives.
abbrev pub IsKept : Meaning → Five (List ℕ) → Opened → List ℕ → List ℕ → Moment → Moment → Type 0
IsKept m files opened input before start at = IsBirth files start at ⊎ IsSafe m files.log opened input before at

-- At a moment at which anything was written behind the output of the start, all survives, whatever the disk had at the start.
abbrev pub IsSafeOnce : Meaning → List ℕ → Opened → List ℕ → List ℕ → Moment → Type 0
IsSafeOnce m old opened input before at = ¬ (at.out ≡ before) → IsSafe m old opened input before at

-- a log gives what another gives, and by the same commits
abbrev pub GivesSame : Meaning → List ℕ → List ℕ → Type 0
GivesSame m old log = ((opened : Opened) → IsOpened m old opened → IsOpened m log opened) × (texts_at log ≡ texts_at old)

-- While the log is opened nothing is written and no input is asked for, and of what the disk has of the files only what it has of the
-- log may be other.
pub record IsPreparing (start at : Moment) : Type 0 where
  pub disks : at.disks ≡ with_ start.disks Log (disk_of at Log)
  pub out : at.out ≡ start.out
  pub unasked : IsUnasked start at

-- While the log is opened nothing is written, and a log that wasn't born is being made, or whatever a crash leaves gives
-- what was found.
pub record IsFound (m : Meaning) (files : Five (List ℕ)) (start at : Moment) : Type 0 where
  pub out : at.out ≡ start.out
  pub left : IsBirth files start at ⊎ ((log : List ℕ) → Leaves (disk_of at Log) log → GivesSame m files.log log)
