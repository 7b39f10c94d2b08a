-- What readers answer.
use Rattle.std.specs.Prelude.{◌≡◌, ℕ, List, Option, Some, None}
use denote.Ref.{Bor}

-- of the front of a text: what meets the relation with what is behind it, where nothing else does, or that nothing does
abbrev pub Finds : {X V : Type 0} → (X → V) → (V → List ℕ → Type 0) → Option (X × Bor (List ℕ)) → Type 0
Finds {X} {V} view Is None = (x : V) (rest : List ℕ) → ¬ (Is x rest)
Finds {X} {V} view Is (Some f) = Is (view f.0) f.1.now × ((x : V) (rest : List ℕ) → Is x rest → (x ≡ view f.0) × (rest ≡ f.1.now))

-- of a whole text: the one thing that meets the relation, or that nothing does
abbrev pub Knows : {X V : Type 0} → (X → V) → (V → Type 0) → Option X → Type 0
Knows {X} {V} view Is None = (x : V) → ¬ (Is x)
Knows {X} {V} view Is (Some found) = Is (view found) × ((x : V) → Is x → x ≡ view found)
