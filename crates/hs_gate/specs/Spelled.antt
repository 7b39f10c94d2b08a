-- What the groups of a file are, in words about its bytes alone.
use Rattle.std.specs.Prelude.{◌≡◌, ◌≢◌, ℕ, List, ◌∷◌, ◌++◌, drop}
use Rattle.hs_gate.specs.Groups.{group, spelled}

-- from place 10 on these groups stand, and behind them a byte that is no open gate
pub record Holds (bytes : List ℕ) (payloads : List (List ℕ)) : Type 0 where
  pub gate : ℕ
  pub rest : List ℕ
  pub closed : gate ≢ 1
  pub is : drop 10 bytes ≡ spelled payloads ++ gate ∷ rest

-- these bytes don't begin with a whole group and one more byte behind it
abbrev pub HasNoGroup : List ℕ → Type 0
HasNoGroup bytes = (payload : List ℕ) (next : ℕ) (rest : List ℕ) → bytes ≡ group payload ++ next ∷ rest → ⊥

-- nor do these behind an open gate
abbrev pub IsBroken : List ℕ → Type 0
IsBroken behind = HasNoGroup (1 ∷ behind)

-- from place 10 on these groups stand, and behind them an open gate without a whole group
pub record Breaks (bytes : List ℕ) (payloads : List (List ℕ)) : Type 0 where
  pub behind : List ℕ
  pub broken : IsBroken behind
  pub is : drop 10 bytes ≡ spelled payloads ++ 1 ∷ behind
