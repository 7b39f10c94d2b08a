-- Lists that go along with others.
use Rattle.std.specs.Prelude.{◌≡◌, ℕ, ◌+◌, List, take, Some, slice_get}

-- each of these stands over the element at its place: of the list before it and the list with it this is so
abbrev pub AreOver : {C S : Type 0} → (List C → List C → S → Type 0) → List C → List S → Type 0
AreOver {C} {S} Q cs ss = (i : ℕ) (s : S) → slice_get ss i ≡ Some s → Q (take i cs) (take (i + 1) cs) s
