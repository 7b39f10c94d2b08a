-- Parts of a list, by where they end.
use Rattle.std.specs.Prelude.{ℕ, zero, suc, ◌-◌, Bool, true, ◌&&◌, nat_le, List, [], ◌∷◌, take, drop, slice_index}

-- the parts of a list that end at these places, the first of which begins at a place, and each other where the one before ends
abbrev pub parts_from : {X : Type 0} → ℕ → List ℕ → List X → List (List X)
parts_from start [] xs = []
parts_from start (end ∷ ends) xs = take (end - start) (drop start xs) ∷ parts_from end ends xs

-- the places don't descend, and none is behind the list
abbrev pub are_ends : ℕ → List ℕ → ℕ → Bool
are_ends start [] long = true
are_ends start (end ∷ ends) long = nat_le start end && (nat_le end long && are_ends end ends long)

-- where the last part ends
abbrev pub last_end : ℕ → List ℕ → ℕ
last_end start [] = start
last_end start (end ∷ ends) = last_end end ends

-- where a part begins
abbrev pub begin : ℕ → List ℕ → ℕ → ℕ
begin start ends zero = start
begin start ends (suc i) = slice_index ends i
