-- The log of a database, as bytes and as it is kept.
use Rattle.std.specs.Prelude.{◌≡◌, ◌⊎◌, ℕ, ◌+◌, ◌*◌, ◌≤◌, Bool, true, false, ◌==◌, ◌&&◌, List, [], ◌++◌, length, Option}
use Rattle.hs_host.specs.declared.file_kind.FileKind.TheVariants as file
use Rattle.hs_host.specs.Files.{Five}
use Rattle.hs_host.specs.Moments.{Moment, History, OneFile, IsStill}
use Rattle.hs_gate.specs.Crash.{IsAny, IsCalm}
use Rattle.hs_gate.specs.Gated.{IsAtRest}
use Rattle.hs_gate.specs.Groups.{is_open, epoch_of, groups_of, end_of}
use Rattle.hs_gate.specs.Rewriting.{IsGroups}
use Rattle.hs_log.specs.declared.log.Log.{Log}
-- a log is born where its first byte is 1
pub use Rattle.hs_gate.specs.Groups.{is_born}

-- it is open, and of this epoch
abbrev pub has_header : ℕ → List ℕ → Bool
has_header epoch bytes = is_open bytes && epoch_of bytes == epoch

-- the texts of a log, up to the first that isn't whole
abbrev pub texts_of : List ℕ → List (List ℕ)
texts_of bytes = (groups_of bytes).payloads

-- behind its texts stands one that isn't whole
abbrev pub is_broken : List ℕ → Bool
is_broken bytes = (groups_of bytes).is_broken

-- These bytes are a log of these texts: born, open, of this epoch, and whole.
pub record IsLogOf (epoch : ℕ) (texts : List (List ℕ)) (bytes : List ℕ) : Type 0 where
  pub born : is_born bytes ≡ true
  pub groups : IsGroups epoch texts bytes

-- And nothing stands behind its texts but one byte that isn't 1.
pub record IsWholeLog (epoch : ℕ) (texts : List (List ℕ)) (bytes : List ℕ) : Type 0 where
  pub log : IsLogOf epoch texts bytes
  pub last : length bytes ≡ end_of texts + 1

-- What is left of a log is read as it was: born where it was, open where it was and of the same epoch, with the same texts.
pub record IsSameLog (old left : List ℕ) : Type 0 where
  pub born : is_born left ≡ is_born old
  pub header : (epoch : ℕ) → has_header epoch left ≡ has_header epoch old
  pub texts : texts_of left ≡ texts_of old
  pub broken : is_broken left ≡ is_broken old

-- What is left is a log of these texts, or of these and all of the new ones.
abbrev pub HasNoneOrAll : ℕ → List (List ℕ) → List (List ℕ) → List ℕ → Type 0
HasNoneOrAll epoch texts more left = IsLogOf epoch texts left ⊎ IsLogOf epoch (texts ++ more) left

-- What is left of a log that wasn't born still isn't, or it is a whole one without texts.
abbrev pub IsUnbornOrNew : List ℕ → Type 0
IsUnbornOrNew left = (is_born left ≡ false) ⊎ IsWholeLog 1 [] left

-- the epoch of a log, the session of its last text, and how many bytes stand before the one that ends it
abbrev pub epoch_in : Log → ℕ
epoch_in log = log.gated.epoch

abbrev pub last_in : Log → Option ℕ
last_in log = log.last

abbrev pub size_in : Log → ℕ
size_in log = log.gated.end

-- so many texts have room in the log: each takes at least 9 bytes
abbrev pub HasRoom : ℕ → Log → Type 0
HasRoom count log = count * 9 + 10 ≤ size_in log

-- This is how the log is kept: it is born, it was read as this, nothing stands behind its texts, and it is on the disk so.
pub record IsLog (h : History) (files : Five (List ℕ)) (log : Log) : Type 0 where
  pub file : log.gated.file ≡ file.Log
  pub born : is_born files.log ≡ true
  pub rest : IsAtRest files log.gated
  pub calm : IsCalm h files log.gated

-- The one case in which nothing is promised: a log that stood alone and wasn't born is being made, before anything else is
-- done or told.
pub record IsBirth (files : Five (List ℕ)) (before m : Moment) : Type 0 where
  pub unborn : is_born files.log ≡ false
  pub log : OneFile before file.Log IsAny m

-- while a log is opened: nothing of what the disk has is other, or the log is being made
abbrev pub IsOpening : Five (List ℕ) → Moment → Moment → Type 0
IsOpening files before m = IsStill before m ⊎ IsBirth files before m
