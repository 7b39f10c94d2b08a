-- A gated file that is written anew behind its closed header gate.
use Rattle.std.specs.Prelude.{◌≡◌, ◌⊎◌, ℕ, ◌≤◌, true, false, List, [], ◌∷◌, ◌++◌, length, slice_index}
use Rattle.hs_host.specs.Disk.{Pending}
use Rattle.hs_host.specs.Files.{piece}
use Rattle.hs_host.specs.Prefixes.{KeepsPrefix}
use Rattle.hs_gate.specs.Groups.{is_open, is_born, epoch_of, groups_of, whole, spelled, eight_bytes}

-- a file has so many bytes, and they are on the disk as they are read
pub record IsKept (p : Pending) (n : ℕ) (bytes : List ℕ) : Type 0 where
  pub within : n ≤ length bytes
  pub keeps : KeepsPrefix p n bytes

-- A file can be written anew: its birth byte and its header gate are on the disk, and where that gate is open, so are its
-- epoch and the byte behind that.
pub record IsReady (p : Pending) (bytes : List ℕ) : Type 0 where
  pub gate : IsKept p 2 bytes
  pub header : slice_index bytes 1 ≡ 1 → IsKept p 11 bytes

-- what stands behind the header gate of a file of this epoch with these groups
abbrev pub body_of : ℕ → List (List ℕ) → List ℕ
body_of epoch payloads = eight_bytes epoch ++ spelled payloads ++ 0 ∷ []

-- what is left isn't open, or the file was open and it still has its epoch
abbrev pub IsClosedOrOld : List ℕ → List ℕ → Type 0
IsClosedOrOld old left = (is_open left ≡ false) ⊎ ((is_open old ≡ true) × (epoch_of left ≡ epoch_of old))

-- what is left of a file whose header gate is closed was born where the file was, and is one of these
pub record IsClosing (old left : List ℕ) : Type 0 where
  pub birth : is_born left ≡ is_born old
  pub header : IsClosedOrOld old left

-- What is left of a file that is written anew was born where the file was. It isn't open; or the file was open and it
-- still has its epoch; or all that is new stands behind its header gate.
pub record IsRewriting (old body left : List ℕ) : Type 0 where
  pub birth : is_born left ≡ is_born old
  pub behind : IsClosedOrOld old left ⊎ (piece 2 (length body) left ≡ body)

-- an open file of this epoch with these groups
pub record IsGroups (epoch : ℕ) (payloads : List (List ℕ)) (bytes : List ℕ) : Type 0 where
  pub opened : is_open bytes ≡ true
  pub epoch_is : epoch_of bytes ≡ epoch
  pub groups : groups_of bytes ≡ whole payloads
