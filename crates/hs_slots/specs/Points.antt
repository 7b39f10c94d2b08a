-- What the five files of a database stand for, as lists of payloads, and what a crash leaves of that.
use Rattle.std.specs.Prelude.{◌≡◌, ◌⊎◌, ℕ, ◌+◌, ◌*◌, ◌<◌, ◌≤◌, ◌==◌, Bool, true, false, not, if◌then◌else◌, List, [], ◌∷◌, ◌++◌, length, drop, slice_index, slice_get, Option, Some, None}
use Rattle.hs_host.specs.declared.file_kind.FileKind.{FileKind}
use Rattle.hs_host.specs.declared.file_kind.FileKind.TheVariants.{Script0, Script1, Log, Data, Backup}
use Rattle.hs_host.specs.Disk.{Leaves}
use Rattle.hs_host.specs.Files.{Five, of, piece}
use Rattle.hs_host.specs.Moments.{Moment, disk_of}
use Rattle.hs_gate.specs.Groups.{is_open, is_born, epoch_of, number_of}
use Rattle.hs_gate.specs.Rewriting.{IsGroups}

-- The file of the second slot, or of the first. A slot has the whole of a checkpoint, and they are written by turns.
abbrev pub slot : Bool → FileKind
slot true = Script1
slot false = Script0

-- What files stand for: which slot is the current one, its epoch and the payloads of its groups; those of the commits that were
-- logged since; the images of pages as they were at the checkpoint; and those pages themselves.
pub record Point : Type 0 where
  pub second : Bool
  pub epoch : ℕ
  pub base : List (List ℕ)
  pub logged : List (List ℕ)
  pub images : List (List ℕ)
  pub pages : List (List ℕ)

-- A gated file has its first two bytes, and where its header gate is 1, a whole header and one byte more.
pub record IsHeaded (bytes : List ℕ) : Type 0 where
  pub two : 2 ≤ length bytes
  pub whole : slice_index bytes 1 ≡ 1 → 11 ≤ length bytes

-- it isn't open, or its epoch is less than this
pub record IsOlder (epoch : ℕ) (bytes : List ℕ) : Type 0 where
  pub headed : IsHeaded bytes
  pub older : is_open bytes ≡ true → epoch_of bytes < epoch

-- It counts where it is open with this epoch, and has these groups then. Else it is older, and there are none.
abbrev pub Counts : ℕ → List (List ℕ) → List ℕ → Type 0
Counts epoch payloads bytes = IsGroups epoch payloads bytes ⊎ (IsOlder epoch bytes × (payloads ≡ []))

-- the log or the backup: it is born, and what counts of it is this
pub record IsBornWith (epoch : ℕ) (payloads : List (List ℕ)) (bytes : List ℕ) : Type 0 where
  pub born : is_born bytes ≡ true
  pub counts : Counts epoch payloads bytes

-- The bytes of a page: those of its image where it has one, which are its number and the page, else those at its place in the file.
abbrev pub page_in : List (List ℕ) → List ℕ → ℕ → List ℕ
page_in [] bytes page = piece (4096 * page) 4096 bytes
page_in (image ∷ images) bytes page = if number_of image == page then drop 8 image else page_in images bytes page

-- with these images in place, the first pages of a file are these
abbrev pub HasPages : List (List ℕ) → List (List ℕ) → List ℕ → Type 0
HasPages images pages bytes = (page : ℕ) → page < length pages → Some (page_in images bytes page) ≡ slice_get pages page

-- the current slot has the checkpoint, and the other one is older
abbrev pub IsSlot : Point → Bool → List ℕ → Type 0
IsSlot p true bytes = IsGroups p.epoch p.base bytes
IsSlot p false bytes = IsOlder p.epoch bytes

-- what a point asks of each file
abbrev pub IsPart : Point → FileKind → List ℕ → Type 0
IsPart p Script0 bytes = IsSlot p (not p.second) bytes
IsPart p Script1 bytes = IsSlot p p.second bytes
IsPart p Log bytes = IsBornWith p.epoch p.logged bytes
IsPart p Backup bytes = IsBornWith p.epoch p.images bytes
IsPart p Data bytes = HasPages p.images p.pages bytes

-- Files stand for a point where each is what the point asks of it.
abbrev pub StandFor : Point → Five (List ℕ) → Type 0
StandFor p files = (file : FileKind) → IsPart p file (of files file)

-- Files that stand for nothing as yet: log and backup aren't both born. The log is made first and the backup next, so neither is
-- empty where something stands that is made behind it.
pub record IsUnborn (files : Five (List ℕ)) : Type 0 where
  pub unborn : is_born files.log ≡ true → is_born files.backup ≡ true → ⊥
  pub backup : files.backup ≡ [] → (files.script0 ≡ []) × (files.script1 ≡ []) × (files.data_ ≡ [])
  pub log : files.log ≡ [] → (files.script0 ≡ []) × (files.script1 ≡ []) × (files.data_ ≡ []) × (files.backup ≡ [])

-- what files stand for: a point, or none as yet
abbrev pub StandAs : Option Point → Five (List ℕ) → Type 0
StandAs (Some p) files = StandFor p files
StandAs None files = IsUnborn files

-- A crash at this moment may leave these five files.
abbrev pub AreLeft : Moment → Five (List ℕ) → Type 0
AreLeft m files = (file : FileKind) → Leaves (disk_of m file) (of files file)

-- A crash at a moment leaves no files that it might not have left at one before.
abbrev pub LeavesNoOther : Moment → Moment → Type 0
LeavesNoOther before m = (file : FileKind) (left : List ℕ) → Leaves (disk_of m file) left → Leaves (disk_of before file) left

-- These files stand for something with this meaning.
pub record Means (meaning : Option Point → Type 0) (files : Five (List ℕ)) : Type 0 where
  pub what : Option Point
  pub stand : StandAs what files
  pub is : meaning what

-- Whatever a crash at this moment leaves stands for something with this meaning.
abbrev pub IsSafe : (Option Point → Type 0) → Moment → Type 0
IsSafe meaning m = (files : Five (List ℕ)) → AreLeft m files → Means meaning files

-- A point is on the disk: whatever a crash at this moment leaves of each file is what the point asks of it.
abbrev pub IsOnDisk : Point → Moment → Type 0
IsOnDisk p m = (file : FileKind) (left : List ℕ) → Leaves (disk_of m file) left → IsPart p file left

-- The first point of a database, and the point that follows a checkpoint of these payloads: the other slot has them, and the
-- log and the backup nothing.
abbrev pub first_point : List (List ℕ) → Point
first_point payloads = record { second = false; epoch = 1; base = payloads; logged = []; images = []; pages = [] }

abbrev pub turned : List (List ℕ) → Point → Point
turned payloads p = record { second = not p.second; epoch = p.epoch + 1; base = payloads; logged = []; images = []; pages = p.pages }

-- a point with the payloads of more commits
abbrev pub and_logged : List (List ℕ) → Point → Point
and_logged more p = record p { logged = p.logged ++ more }

-- a checkpoint is being made: it counts, or it doesn't yet
abbrev pub IsTurning : List (List ℕ) → Point → Option Point → Type 0
IsTurning payloads p what = (what ≡ Some p) ⊎ (what ≡ Some (turned payloads p))

-- a database is being created: there is none yet, or this is its first point
abbrev pub IsCreating : List (List ℕ) → Option Point → Type 0
IsCreating payloads what = (what ≡ None) ⊎ (what ≡ Some (first_point payloads))

-- some commits are being logged: none of them is, or all are
abbrev pub IsCommitting : List (List ℕ) → Point → Option Point → Type 0
IsCommitting more p what = (what ≡ Some p) ⊎ (what ≡ Some (and_logged more p))

-- two points are the same but for how many pages they have, which the payloads say
pub record IsSamePoint (p q : Point) : Type 0 where
  pub second : p.second ≡ q.second
  pub epoch : p.epoch ≡ q.epoch
  pub base : p.base ≡ q.base
  pub logged : p.logged ≡ q.logged
  pub images : p.images ≡ q.images
  pub pages : (page : ℕ) → page < length p.pages → page < length q.pages → slice_get p.pages page ≡ slice_get q.pages page
