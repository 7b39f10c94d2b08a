-- A gated file that is being written anew behind its closed header gate.
use Rattle.std.specs.Prelude.{◌≡◌, ◌≢◌, ◌⊎◌, ℕ, ◌+◌, ◌≤◌, false, List, ◌∷◌, ◌++◌, length, take, slice_index}
use Rattle.hs_host.specs.Disk.{Pending}
use Rattle.hs_host.specs.Files.{piece}
use Rattle.hs_gate.specs.Groups.{is_open, is_born, eight_bytes}
use Rattle.hs_gate.specs.Rewriting.{IsKept}
use Rattle.hs_slots.specs.Points.{IsHeaded}

-- Its birth byte and its gate, which isn't open, are on the disk, and behind them it has this text up to a place.
pub record IsStaged (p : Pending) (bytes : List ℕ) (end : ℕ) (text : List ℕ) : Type 0 where
  pub kept : IsKept p 2 bytes
  pub closed : slice_index bytes 1 ≢ 1
  pub within : end ≤ length bytes
  pub size : end ≡ 2 + length text
  pub text_is : take end bytes ≡ take 2 bytes ++ text

-- What is left while its gate is opened: it was born where it was, and it isn't open, or has this body behind its gate.
pub record IsOpened (old body left : List ℕ) : Type 0 where
  pub birth : is_born left ≡ is_born old
  pub headed : IsHeaded left
  pub behind : (is_open left ≡ false) ⊎ (piece 2 (length body) left ≡ body)

-- an open gate, and the length of the payload that follows
abbrev pub head_before : ℕ → List ℕ
head_before size = 1 ∷ eight_bytes size
