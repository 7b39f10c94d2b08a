-- Tests, and readers that answer by equivalent relations.
use Rattle.std.proofs.Common.{◌≡◌, ◌≢◌, ℕ, Bool, true, false, ◌||◌, ◌&&◌, List, [], ◌∷◌, ◌++◌, Option, Some, None, Result, Ok, Err, Bor, ◌⊎◌, inl, inr, refl, eqb}
use Rattle.std.specs.Prelude.{IfOk}
use Rattle.std.specs.List.{list_any}
use Rattle.std.proofs.lemmas.Bool.{cases_Bool, eqb-true, eqb-false}
use Rattle.hs_valuetext.specs.Finding.{Finds, Knows}

pub or_false : (x y : Bool) → (x || y) ≡ false → (x ≡ false) × (y ≡ false)
or_false true y e = absurd cc
or_false false y e = (refl, e)

pub and_true : (x y : Bool) → (x && y) ≡ true → (x ≡ true) × (y ≡ true)
and_true true y e = (refl, e)
and_true false y e = absurd cc

pub not_both : (x : Bool) → x ≡ true → x ≡ false → ⊥
not_both true a b = cc
not_both false a b = cc

pub any-append : (p : ℕ → Bool) (xs ys : List ℕ) → list_any p xs ≡ false → list_any p ys ≡ false → list_any p (xs ++ ys) ≡ false
any-append p [] ys a b = b
any-append p (x ∷ xs) ys a b =
    let parts = or_false (p x) (list_any p xs) a in
    rw parts.0 (any-append p xs ys parts.1 b)

-- equal numbers or not, with what the test says
pub same_or_not : (x y : ℕ) → ((x ≡ y) × (eqb x y ≡ true)) ⊎ ((x ≢ y) × (eqb x y ≡ false))
same_or_not x y = elim (cases_Bool (eqb x y)) [
  | inl holds ↦ inl (eqb-true x y holds, holds)
  | inr fails ↦ inr (eqb-false x y fails, fails)
]

-- relations that hold alike are found alike
pub alike : {X V : Type 0} (view : X → V) (P Q : V → List ℕ → Type 0) → ((x : V) (rest : List ℕ) → P x rest → Q x rest) → ((x : V) (rest : List ℕ) → Q x rest → P x rest) → (found : Option (X × Bor (List ℕ))) → Finds view P found → Finds view Q found
alike view P Q to from None h = λ x rest q. h x rest (from x rest q)
alike view P Q to from (Some f) h = (to _ _ h.0, λ x rest q. h.1 x rest (from x rest q))

pub alike_ok : {X V E : Type 0} (view : X → V) (P Q : V → List ℕ → Type 0) → ((x : V) (rest : List ℕ) → P x rest → Q x rest) → ((x : V) (rest : List ℕ) → Q x rest → P x rest) → (r : Result (Option (X × Bor (List ℕ))) E) → IfOk r (λ found. Finds view P found) → IfOk r (λ found. Finds view Q found)
alike_ok view P Q to from (Ok found) h = alike view P Q to from found h
alike_ok view P Q to from (Err e) h = tt

pub known_alike : {X V : Type 0} (view : X → V) (P Q : V → Type 0) → ((x : V) → P x → Q x) → ((x : V) → Q x → P x) → (found : Option X) → Knows view P found → Knows view Q found
known_alike view P Q to from None h = λ x q. h x (from x q)
known_alike view P Q to from (Some f) h = (to _ h.0, λ x q. h.1 x (from x q))
