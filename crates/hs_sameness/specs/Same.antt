-- What is told of two things: whether they are the same.
use Rattle.std.specs.Prelude.{◌≡◌, Bool, true, false, List, ◌∷◌, Option, None, Some}
use denote.Ref.{Bor}

-- that they are the same, or that they aren't; what isn't plain is never told to be the same
abbrev pub Tells : {A : Type 0} → (A → Bool) → A → A → Bool → Type 0
Tells plain a b true = (a ≡ b) × (plain a ≡ true)
Tells plain a b false = a ≡ b → ¬ (plain a ≡ true)

-- that a list begins with a thing, and what is behind it; or that it doesn't
abbrev pub TellsRest : {A : Type 0} → (A → Bool) → A → List A → Option (Bor (List A)) → Type 0
TellsRest plain a list (Some others) = (list ≡ a ∷ others.now) × (plain a ≡ true)
TellsRest {A} plain a list None = (rest : List A) → list ≡ a ∷ rest → ¬ (plain a ≡ true)
