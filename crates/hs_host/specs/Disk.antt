-- What a crash may leave of a file.
use Rattle.std.specs.Prelude.{◌≡◌, ◌⊎◌, ℕ, ◌+◌, ◌<◌, ◌≤◌, min, Bool, true, false, List, [], ◌∷◌, length, slice_index, MatchBool}

-- What the disk has of a file: its bytes at the last sync that answered `Ok`, or at mount; whether a write or a cut was
-- called since; the least of the length at that sync and of all lengths to which a cut was called since; and the places
-- that a write was called for since, each as the first place and how many. Calls that failed may be among them.
pub record Pending : Type 0 where
  pub synced : List ℕ
  pub touched : Bool
  pub low : ℕ
  pub ranges : List (ℕ × ℕ)

-- a file that was just synced
abbrev pub settled : List ℕ → Pending
settled bytes = record { synced = bytes; touched = false; low = length bytes; ranges = [] }

-- a write of so many bytes from a place on was called
abbrev pub written_at : ℕ → ℕ → Pending → Pending
written_at at count p = record p { touched = true; ranges = (at, count) ∷ p.ranges }

-- a cut to a length was called
abbrev pub cut_to : ℕ → Pending → Pending
cut_to len p = record p { touched = true; low = min p.low len }

-- a place is among these
abbrev pub IsCovered : List (ℕ × ℕ) → ℕ → Type 0
IsCovered [] i = ⊥
IsCovered (range ∷ ranges) i = ((range.0 ≤ i) × (i < range.0 + range.1)) ⊎ IsCovered ranges i

-- A crash may leave these bytes of a file that was touched: at least `low` of them, which are the synced ones but for
-- those that were written.
pub record MayLeave (p : Pending) (bytes : List ℕ) : Type 0 where
  pub long : p.low ≤ length bytes
  pub same : (i : ℕ) → i < p.low → (IsCovered p.ranges i → ⊥) → slice_index bytes i ≡ slice_index p.synced i

-- A crash may leave these bytes. Of a file that wasn't touched since its sync it leaves what was synced.
abbrev pub Leaves : Pending → List ℕ → Type 0
Leaves p bytes = MatchBool p.touched (MayLeave p bytes) (bytes ≡ p.synced)
