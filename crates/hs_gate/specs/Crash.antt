-- What a crash leaves of a gated file.
use Rattle.std.specs.Prelude.{◌≡◌, ◌⊎◌, ℕ, ◌+◌, ◌≤◌, List, length, take}
use Rattle.hs_host.specs.declared.file_kind.FileKind.{FileKind}
use Rattle.hs_host.specs.Files.{Five, of, overwrite, piece}
use Rattle.hs_host.specs.Prefixes.{KeepsPrefix}
use Rattle.hs_host.specs.Moments.{Moment, History, IsWritten, IsSynced, disk_of}
use Rattle.hs_gate.specs.declared.gated.Gated.{Gated}
use Rattle.hs_gate.specs.Gated.{IsGated}
use Rattle.hs_gate.specs.Groups.{is_open, is_born, epoch_of, groups_of, and_groups}

-- the file up to the gate that ends its groups is on the disk, and no write or cut since has touched it
abbrev pub IsCalm : History → Five (List ℕ) → Gated → Type 0
IsCalm h files gated = KeepsPrefix (disk_of h.now gated.file) (gated.end + 1) (of files gated.file)

-- this is how the file is read, and it is on the disk so
pub record StandsOnDisk (h : History) (files : Five (List ℕ)) (gated : Gated) : Type 0 where
  pub stands : IsGated files gated
  pub calm : IsCalm h files gated

-- the same birth, the same header gate and the same epoch
pub record HasSameHeader (old new : List ℕ) : Type 0 where
  pub birth : is_born new ≡ is_born old
  pub gate : is_open new ≡ is_open old
  pub epoch : epoch_of new ≡ epoch_of old

-- what is left has the same header and the same groups
pub record IsAsBefore (old left : List ℕ) : Type 0 where
  pub header : HasSameHeader old left
  pub groups : groups_of left ≡ groups_of old

-- the same header, and these groups more
pub record HasMore (old : List ℕ) (more : List (List ℕ)) (new : List ℕ) : Type 0 where
  pub header : HasSameHeader old new
  pub groups : groups_of new ≡ and_groups more (groups_of old)

-- what is left has the same header, and the same groups, or these and all the new ones
pub record IsBeforeOrAfter (old : List ℕ) (more : List (List ℕ)) (left : List ℕ) : Type 0 where
  pub header : HasSameHeader old left
  pub groups : (groups_of left ≡ groups_of old) ⊎ (groups_of left ≡ and_groups more (groups_of old))

-- nothing is said of what is left
abbrev pub IsAny : List ℕ → Type 0
IsAny left = Unit {0}

-- what is left begins with so many of these bytes
abbrev pub BeginsWith : ℕ → List ℕ → List ℕ → Type 0
BeginsWith n old left = (take n left ≡ take n old) × (n ≤ length left)

-- a write into a file of these bytes was called, or the file was then synced
pub data IsWriting (before : Moment) (file : FileKind) (at : ℕ) (bytes old : List ℕ) (m : Moment) : Type 0 where
  called : IsWritten before file at (length bytes) m → IsWriting before file at bytes old m
  done : IsSynced before file (overwrite old at bytes) m → IsWriting before file at bytes old m

-- what is left has what stands before a place, and these bytes one place behind it
pub record HasBehind (old : List ℕ) (at : ℕ) (behind left : List ℕ) : Type 0 where
  pub long : at + 1 + length behind ≤ length left
  pub front : take at left ≡ take at old
  pub there : piece (at + 1) (length behind) left ≡ behind

-- what is left begins with what stands up to a place and there, or it has these bytes behind that place
abbrev pub IsPut : List ℕ → ℕ → List ℕ → List ℕ → Type 0
IsPut old at behind left = BeginsWith (at + 1) old left ⊎ HasBehind old at behind left
