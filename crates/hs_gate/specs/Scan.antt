-- What stands at the place of a group, and where groups end.
use Rattle.std.specs.Prelude.{ℕ, ◌+◌, ◌≤◌, ◌==◌, Bool, if◌then◌else◌, List, [], ◌∷◌, length}
use Rattle.hs_gate.specs.declared.found.Found.{Found}
use Rattle.hs_gate.specs.declared.found.Found.TheVariants.{Closed, Group, Broken}
use Rattle.hs_gate.specs.Groups.{Groups, is_whole, size_of, spelled}

-- what begins with these bytes
abbrev pub found_in : List ℕ → Found
found_in [] = Broken
found_in (gate ∷ behind) = if gate == 1 then if is_whole behind then Group (size_of behind) else Broken else Closed

-- a group fits in the bytes behind its gate, with one more byte behind it
abbrev pub FitsIn : ℕ → Found → Type 0
FitsIn behind Closed = Unit {0}
FitsIn behind (Group size) = 9 + size ≤ behind
FitsIn behind Broken = Unit {0}

-- how many groups there are, the place behind the last, and whether a broken one stands there in place of a gate that isn't open
pub record Ending : Type 0 where
  pub groups : ℕ
  pub end : ℕ
  pub is_broken : Bool

-- where the groups end, of which so many stand before a place and these from there on
abbrev pub ending : ℕ → ℕ → Groups → Ending
ending count at groups = record { groups = count + length groups.payloads; end = at + length (spelled groups.payloads); is_broken = groups.is_broken }
