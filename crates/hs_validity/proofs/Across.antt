-- Each of one list with each of another.
use Rattle.std.proofs.Common.{◌≡◌, inl, inr, Bool, true, false, List, [], ◌∷◌}
use Rattle.std.specs.List.{list_any}
use Rattle.std.proofs.lemmas.Bool.{or_cases}
use Rattle.hs_turns.specs.Each.{Each, Across}

some_of : {X : Type 0} (P : X → Type 0) (p : X → Bool) (R : Type 0) → ((x : X) → P x → p x ≡ true → R) → (xs : List X) → Each P xs → list_any p xs ≡ true → R
some_of P p R f [] h is = absurd (let no : false ≡ true = is in cc)
some_of P p R f (x ∷ xs) h is = elim (or_cases (p x) (list_any p xs) is) [
  | inl here ↦ f x h.0 here
  | inr later ↦ some_of P p R f xs h.1 later
]

pub not_across : {X Y : Type 0} (R : X → Y → Type 0) (p : X → Bool) (q : Y → Bool) → ((x : X) (y : Y) → R x y → p x ≡ true → q y ≡ true → ⊥) → (xs : List X) (ys : List Y) → Across R xs ys → list_any p xs ≡ true → list_any q ys ≡ true → ⊥
not_across R p q f xs ys h one other = some_of (λ x. Each (R x) ys) p ⊥ (λ x each here. some_of (R x) q ⊥ (λ y r there. f x y r here there) ys each other) xs h one
