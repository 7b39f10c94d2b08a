-- What a crash leaves of the log while a run is at work.
use Rattle.std.specs.Prelude.{◌≡◌, ℕ, ◌≤◌, true, List, ◌++◌, length}
use Rattle.hs_entries.specs.Parts.{lacks}
use Rattle.hs_host.specs.Disk.{Leaves}
use Rattle.hs_host.specs.Files.{Five, with_}
use Rattle.hs_host.specs.Moments.{Moment, disk_of}
use Rattle.hs_host.specs.declared.file_kind.FileKind.TheVariants.{Log}
use Rattle.hs_log.specs.Log.{IsLogOf, texts_of}
use Rattle.hs_machine.specs.Acknowledged.{AcknowledgesAtMost}

-- the texts of the commits in a log
abbrev pub texts_in : Five (List ℕ) → List (List ℕ)
texts_in files = texts_of files.log

-- of five files only the log may have changed
abbrev pub OnlyLog : Five (List ℕ) → Five (List ℕ) → Type 0
OnlyLog old new = new ≡ with_ old Log new.log

-- what was written behind an output acknowledges no later commit than this one
pub record AcknowledgesBehind (before out : List ℕ) (most : ℕ) : Type 0 where
  pub written : List ℕ
  pub is : out ≡ before ++ written
  pub told : AcknowledgesAtMost written most

-- behind an output no whole line was written yet
pub record HasNoLine (before out : List ℕ) : Type 0 where
  pub written : List ℕ
  pub is : out ≡ before ++ written
  pub none : lacks 10 written ≡ true

-- A log is one of texts that are a prefix of these, so many at least, and no later commit was acknowledged. Until a whole line
-- was written it has no more.
pub record Holds (least : ℕ) (all : List (List ℕ)) (before out log : List ℕ) : Type 0 where
  pub texts : List (List ℕ)
  pub is : IsLogOf 1 texts log
  pub enough : least ≤ length texts
  pub rest : List (List ℕ)
  pub prefix : texts ++ rest ≡ all
  pub told : AcknowledgesBehind before out (length texts)
  pub begun : HasNoLine before out → length texts ≡ least

-- so it is whatever a crash at this moment leaves of the log
abbrev pub IsHeld : ℕ → List (List ℕ) → List ℕ → Moment → Type 0
IsHeld least all before m = (log : List ℕ) → Leaves (disk_of m Log) log → Holds least all before m.out log

-- Of what the disk has of the files, only what it has of the log may be other than at a moment before; and more output may have
-- been written.
pub record IsLater (before m : Moment) : Type 0 where
  pub disks : m.disks ≡ with_ before.disks Log (disk_of m Log)
  pub more : List ℕ
  pub out : m.out ≡ before.out ++ more
