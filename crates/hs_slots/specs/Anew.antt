-- What a crash leaves of a gated file that is written anew.
use Rattle.std.specs.Prelude.{◌≡◌, ◌⊎◌, ℕ, List, ◌++◌, ◌∷◌, take}
use Rattle.hs_gate.specs.Groups.{is_born}
use Rattle.hs_gate.specs.Rewriting.{IsClosedOrOld, IsGroups, body_of}
use Rattle.hs_slots.specs.Points.{IsHeaded}

-- While its header gate is closed, it is born where it was, and it has its first two bytes; it isn't open, or it was and still
-- has its epoch.
pub record IsShut (old left : List ℕ) : Type 0 where
  pub birth : is_born left ≡ is_born old
  pub headed : IsHeaded left
  pub behind : IsClosedOrOld old left

-- Until all of it is written the same holds, and then it is open with this epoch and these groups.
pub record IsAnew (old : List ℕ) (epoch : ℕ) (payloads : List (List ℕ)) (left : List ℕ) : Type 0 where
  pub birth : is_born left ≡ is_born old
  pub headed : IsHeaded left
  pub behind : IsClosedOrOld old left ⊎ IsGroups epoch payloads left

-- all of its bytes: its birth byte as it was, an open gate, the epoch, the groups and a closed gate
abbrev pub renewed : List ℕ → ℕ → List (List ℕ) → List ℕ
renewed old epoch payloads = take 1 old ++ 1 ∷ body_of epoch payloads
