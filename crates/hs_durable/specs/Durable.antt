-- What the files of a database stand for, as lists of texts, and what a crash leaves of that.
use Rattle.std.specs.Prelude.{◌≡◌, ◌⊎◌, ℕ, ◌≤◌, List, [], ◌++◌, length, take}
use Rattle.hs_host.specs.declared.file_kind.FileKind.{FileKind}
use Rattle.hs_host.specs.Disk.{Leaves}
use Rattle.hs_host.specs.Files.{Five, of}
use Rattle.hs_host.specs.Moments.{Moment, History, disk_of}
use Rattle.hs_log.specs.declared.log.Log.{Log}
use Rattle.hs_log.specs.Log.{IsLogOf, IsLog, texts_of, epoch_in}
-- The one case in which nothing is promised: the birth of a log that stood alone.
pub use Rattle.hs_log.specs.Log.{IsBirth}

-- What files stand for: the epoch, and the texts of the commits that were logged since the last checkpoint, the oldest first.
pub record Point : Type 0 where
  pub epoch : ℕ
  pub logged : List (List ℕ)

-- before any commit
abbrev pub origin : Point
origin = record { epoch = 1; logged = [] }

-- with the texts of more commits
abbrev pub and_logged : List (List ℕ) → Point → Point
and_logged more p = record p { logged = p.logged ++ more }

-- Five files stand for this: the log is one of these texts and of this epoch. Of the other four nothing is asked as yet.
pub record StandFor (p : Point) (files : Five (List ℕ)) : Type 0 where
  pub log : IsLogOf p.epoch p.logged files.log

-- A crash at this moment may leave these five files.
abbrev pub AreLeft : Moment → Five (List ℕ) → Type 0
AreLeft m files = (file : FileKind) → Leaves (disk_of m file) (of files file)

-- A crash at a moment leaves no files that it might not have left at one before.
abbrev pub LeavesNoOther : Moment → Moment → Type 0
LeavesNoOther before m = (files : Five (List ℕ)) → AreLeft m files → AreLeft before files

-- These files stand for something with this meaning.
pub record Means (meaning : Point → Type 0) (files : Five (List ℕ)) : Type 0 where
  pub point : Point
  pub stand : StandFor point files
  pub is : meaning point

-- Whatever a crash at this moment leaves stands for something with this meaning.
abbrev pub IsSafe : (Point → Type 0) → Moment → Type 0
IsSafe meaning m = (files : Five (List ℕ)) → AreLeft m files → Means meaning files

-- The files stand for this and are held as this: the log is kept so, and stands so on the disk.
pub record IsServed (p : Point) (held : Log) (h : History) (files : Five (List ℕ)) : Type 0 where
  pub log : IsLog h files held
  pub epoch : epoch_in held ≡ p.epoch
  pub logged : texts_of files.log ≡ p.logged

-- Some commits are being logged: none of them is, or all are.
abbrev pub IsCommitting : Point → List (List ℕ) → Point → Type 0
IsCommitting p more q = (q ≡ p) ⊎ (q ≡ and_logged more p)

-- Survivors are counted by commits: behind the texts of an opening stand the first so many of those that a run makes, at
-- least as many as this.
pub record Survives (opening : Point) (made : List (List ℕ)) (least : ℕ) (p : Point) : Type 0 where
  pub count : ℕ
  pub enough : least ≤ count
  pub within : count ≤ length made
  pub is : p ≡ and_logged (take count made) opening
