-- Lists of which some items stay.
use Rattle.std.proofs.Common.{◌≡◌, Bool, true, false, cond, filter, List, [], ◌∷◌, ◌++◌, refl, sym, ap, ◌∙◌, if◌then◌else◌, arith}
use Rattle.std.proofs.lemmas.List.Elements.{filter-append}
use Rattle.std.specs.List.{flat_map, find}

module _ {X : Type 0} where
  -- what passes of what stays, where whatever passes stays
  pub filter-within : (p q : X → Bool) (within : (x : X) → p x ≡ true → q x ≡ true) (xs : List X) → filter p (filter q xs) ≡ filter p xs
  filter-within p q within [] = refl
  filter-within p q within (x ∷ xs) = grind (arith, within x, filter-within p q within xs)

  -- none passes of what stays, where what stays doesn't pass
  pub filter-apart : (p q : X → Bool) (apart : (x : X) → q x ≡ true → p x ≡ false) (xs : List X) → filter p (filter q xs) ≡ []
  filter-apart p q apart [] = refl
  filter-apart p q apart (x ∷ xs) = grind (arith, apart x, filter-apart p q apart xs)

  -- what stays may be told after what passes, by a test that agrees on what passes
  pub filter-swap : (p q r : X → Bool) (agree : (x : X) → p x ≡ true → q x ≡ r x) (xs : List X) → filter p (filter q xs) ≡ filter r (filter p xs)
  filter-swap p q r agree [] = refl
  filter-swap p q r agree (x ∷ xs) = grind (arith, agree x, filter-swap p q r agree xs)

  pub find-within : (p q : X → Bool) (within : (x : X) → p x ≡ true → q x ≡ true) (xs : List X) → find p (filter q xs) ≡ find p xs
  find-within p q within [] = refl
  find-within p q within (x ∷ xs) = grind (arith, within x, find-within p q within xs)

module _ {X A : Type 0} (f : X → List A) where
  -- what goes gives nothing
  pub flat_map-skip : (q : X → Bool) (nothing : (x : X) → q x ≡ false → f x ≡ []) (xs : List X) → flat_map f (filter q xs) ≡ flat_map f xs
  flat_map-skip q nothing [] = refl
  flat_map-skip q nothing (x ∷ xs) = grind (arith, nothing x, flat_map-skip q nothing xs)

  -- what stays gives what stays
  pub flat_map-filter : (q : X → Bool) (r : A → Bool) (same : (x : X) → filter r (f x) ≡ (if q x then f x else [])) (xs : List X) → flat_map f (filter q xs) ≡ filter r (flat_map f xs)
  flat_map-filter q r same [] = refl
  flat_map-filter q r same (x ∷ xs) = by (q x) (flat_map-filter q r same xs) (same x) ∙ sym (filter-append r (f x) (flat_map f xs))
    where
      by : (b : Bool) → flat_map f (filter q xs) ≡ filter r (flat_map f xs) → filter r (f x) ≡ (if b then f x else []) → flat_map f (cond b (x ∷ filter q xs) (filter q xs)) ≡ filter r (f x) ++ filter r (flat_map f xs)
      by true rest here = ap (λ ys. f x ++ ys) rest ∙ ap (λ ys. ys ++ filter r (flat_map f xs)) (sym here)
      by false rest here = rest ∙ ap (λ ys. ys ++ filter r (flat_map f xs)) (sym here)
