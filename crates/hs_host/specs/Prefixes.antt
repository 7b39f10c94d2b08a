-- Files whose front no call has touched since it was synced.
use Rattle.std.specs.Prelude.{◌≡◌, ℕ, ◌≤◌, List, [], ◌∷◌, length, take}
use Rattle.hs_host.specs.Disk.{Pending}

-- every range begins at a place or behind it
abbrev pub AreBehind : ℕ → List (ℕ × ℕ) → Type 0
AreBehind n [] = Unit {0}
AreBehind n (range ∷ ranges) = (n ≤ range.0) × AreBehind n ranges

-- The first n bytes are on the disk as these have them, and no write or cut since has touched them. So whatever a crash
-- leaves begins with them.
pub record KeepsPrefix (p : Pending) (n : ℕ) (bytes : List ℕ) : Type 0 where
  pub long : n ≤ length p.synced
  pub low : n ≤ p.low
  pub same : take n p.synced ≡ take n bytes
  pub behind : AreBehind n p.ranges
