-- A list has one stable order, which is `sorted_by`.
use Rattle.std.proofs.Common.{◌≡◌, ℕ, zero, suc, ◌+◌, ◌<◌, ◌≤◌, Bool, true, false, not, ◌&&◌, cond, List, [], ◌∷◌, length, get_or, map, filter, refl, sym, ap, subst, ◌∙◌, arith, inl, inr, suc-le-suc, zero-le, add-one}
use Rattle.std.proofs.lemmas.Bool.{cond-true, cond-false, cases_Bool, and_parts, not-true}
use Rattle.std.specs.declared.cmp.Ordering.{Ordering}
use Rattle.std.specs.Ordering.{is_lt, on}
use Rattle.std.specs.Cmp.{IsStrictWeakOrder, IsTotalOrder}
use Rattle.std.specs.List.{AllByRecursion}
use Rattle.std.specs.List.Sorted.{ties, IsSortedBy, IsStableBy, IsPermutation, IsSorted, IsStable}
use Rattle.std.proofs.lemmas.List.Sorted.{sorted_far, ranks_by, IsPermutation-refl, IsPermutation-trans, IsPermutation-cons, IsPermutation-middle}
use Rattle.hs_values.specs.Sorted.{placed, sorted_by}

module _ {X : Type 0} where
  pub kept : (p : X → Bool) (y : X) (ys : List X) → p y ≡ true → filter p (y ∷ ys) ≡ y ∷ filter p ys
  kept p y ys h = cond-true _ _ _ h

  pub dropped : (p : X → Bool) (y : X) (ys : List X) → p y ≡ false → filter p (y ∷ ys) ≡ filter p ys
  dropped p y ys h = cond-false _ _ _ h

module _ {X : Type 0} (lt : X → X → Bool) (o : IsStrictWeakOrder lt) where
  -- none of ys is below x
  abbrev IsLeast : X → List X → Type 0
  IsLeast x = AllByRecursion (λ y. lt y x ≡ false)

  abbrev Rises : List X → Type 0
  Rises [] = Unit {0}
  Rises (y ∷ ys) = IsLeast y ys × Rises ys

  least_at : (x : X) (ys : List X) → ((j : ℕ) → j < length ys → lt (get_or ys j x) x ≡ false) → IsLeast x ys
  least_at x [] h = tt
  least_at x (y ∷ ys) h = (h zero (suc-le-suc zero-le), least_at x ys (λ j below. h (suc j) (suc-le-suc below)))

  rises_from : (ys : List X) → ((i j : ℕ) (d : X) → i ≤ j → j < length ys → lt (get_or ys j d) (get_or ys i d) ≡ false) → Rises ys
  rises_from [] h = tt
  rises_from (y ∷ ys) h = (
    least_at y ys (λ j below. h zero (suc j) y zero-le (suc-le-suc below)),
    rises_from ys (λ i j d le below. h (suc i) (suc j) d (suc-le-suc le) (suc-le-suc below)),
  )

  sorted_from : (ys : List X) → Rises ys → IsSortedBy lt ys
  sorted_from ys h k d low below = next ys k d h below
    where
      next : (zs : List X) (k : ℕ) (d : X) → Rises zs → k + 1 < length zs → lt (get_or zs (k + 1) d) (get_or zs k d) ≡ false
      next [] k d h below = absurd (omega arith)
      next (y ∷ []) k d h below = absurd (omega arith)
      next (y ∷ z ∷ zs) zero d h below = h.0.0
      next (y ∷ z ∷ zs) (suc k) d h below = rw add-one (rw add-one at (next (z ∷ zs) k d h.1 (omega arith)))

  pub tied : (x y : X) → ties lt x y ≡ true → (lt x y ≡ false) × (lt y x ≡ false)
  tied x y h = let both = and_parts (not (lt x y)) (not (lt y x)) h in (not-true _ both.0, not-true _ both.1)

  tie : (x y : X) → lt x y ≡ false → lt y x ≡ false → ties lt x y ≡ true
  tie x y h k = (λ i. not (h i) && not (k i))

  itself : (x : X) → lt x x ≡ false
  itself x = elim (cases_Bool (lt x x)) [ inl h ↦ o.one_way x x h | inr h ↦ h ]

  least_below : (w x : X) (ys : List X) → lt x w ≡ false → IsLeast x ys → IsLeast w ys
  least_below w x [] below h = tt
  least_below w x (y ∷ ys) below h = (o.chain y x w h.0 below, least_below w x ys below h.1)

  -- w is at most one that is there and ties with x
  least_found : (w x : X) (ys : List X) (z : X) (zs : List X) → IsLeast w ys → filter (ties lt x) ys ≡ z ∷ zs → lt x w ≡ false
  least_found w x [] z zs h e = cc
  least_found w x (y ∷ ys) z zs h e =
      elim (cases_Bool (ties lt x y)) [
        | inl with ↦ o.chain x y w (tied x y with).0 h.0
        | inr without ↦ least_found w x ys z zs h.1 (sym (dropped (ties lt x) y ys without) ∙ e)
      ]

  same_from_ties : (ys zs : List X) → Rises ys → Rises zs → ((x : X) → filter (ties lt x) ys ≡ filter (ties lt x) zs) → ys ≡ zs
  same_from_ties [] [] left right same = refl
  same_from_ties [] (z ∷ zs) left right same = let clash = same z ∙ kept (ties lt z) z zs (tie z z (itself z) (itself z)) in cc
  same_from_ties (y ∷ ys) [] left right same = let clash = sym (same y) ∙ kept (ties lt y) y ys (tie y y (itself y) (itself y)) in cc
  same_from_ties (y ∷ ys) (z ∷ zs) left right same =
      let at_y = kept (ties lt y) y ys (tie y y (itself y) (itself y)) in
      let at_z = kept (ties lt z) z zs (tie z z (itself z) (itself z)) in
      let up = least_found z y (z ∷ zs) y _ (itself z, right.0) (sym (same y) ∙ at_y) in
      let down = least_found y z (y ∷ ys) z _ (itself y, left.0) (same z ∙ at_z) in
      let heads = sym at_y ∙ same y ∙ kept (ties lt y) z zs (tie y z up down) in
      let head : y ≡ z = cc in
      let tails : (x : X) → filter (ties lt x) ys ≡ filter (ties lt x) zs =
      λ x. elim (cases_Bool (ties lt x y)) [
        | inl with ↦
            let both = sym (kept (ties lt x) y ys with) ∙ same x ∙ kept (ties lt x) z zs (ap (ties lt x) (sym head) ∙ with) in cc
        | inr without ↦
            sym (dropped (ties lt x) y ys without) ∙ same x ∙ dropped (ties lt x) z zs (ap (ties lt x) (sym head) ∙ without)
      ] in
      let tail : ys ≡ zs = same_from_ties ys zs left.1 right.1 tails in cc

  -- a stable order is the only one
  pub one_stable_order : (xs ys zs : List X) → IsSortedBy lt ys → IsStableBy lt xs ys → IsSortedBy lt zs → IsStableBy lt xs zs → ys ≡ zs
  one_stable_order xs ys zs up first down second =
      same_from_ties ys zs (rises_from ys (sorted_far lt o ys up)) (rises_from zs (sorted_far lt o zs down)) (λ x. first x ∙ sym (second x))

module _ {X : Type 0} (cmp : X → X → Ordering) (o : IsTotalOrder cmp) where
  abbrev pub lt : X → X → Bool
  lt x y = is_lt (cmp x y)

  pub ranked : IsStrictWeakOrder lt
  ranked = ranks_by o (λ x. x)

  past : (x y : X) (ys : List X) → lt y x ≡ true → placed cmp x (y ∷ ys) ≡ y ∷ placed cmp x ys
  past x y ys h = cond-true _ _ _ h

  stays : (x y : X) (ys : List X) → lt y x ≡ false → placed cmp x (y ∷ ys) ≡ x ∷ y ∷ ys
  stays x y ys h = cond-false _ _ _ h

  least_placed : (w x : X) (ys : List X) → lt x w ≡ false → IsLeast lt ranked w ys → IsLeast lt ranked w (placed cmp x ys)
  least_placed w x [] first h = (first, tt)
  least_placed w x (y ∷ ys) first h =
      elim (cases_Bool (lt y x)) [
        | inl below ↦ subst (IsLeast lt ranked w) (sym (past x y ys below)) (h.0, least_placed w x ys first h.1)
        | inr above ↦ subst (IsLeast lt ranked w) (sym (stays x y ys above)) (first, h)
      ]

  rises_placed : (x : X) (ys : List X) → Rises lt ranked ys → Rises lt ranked (placed cmp x ys)
  rises_placed x [] h = (tt, tt)
  rises_placed x (y ∷ ys) h =
      elim (cases_Bool (lt y x)) [
        | inl below ↦ subst (Rises lt ranked) (sym (past x y ys below)) (least_placed y x ys (ranked.one_way y x below) h.0, rises_placed x ys h.1)
        | inr above ↦ subst (Rises lt ranked) (sym (stays x y ys above)) ((above, least_below lt ranked x y ys above h.0), h)
      ]

  rises_sorted : (xs : List X) → Rises lt ranked (sorted_by cmp xs)
  rises_sorted [] = tt
  rises_sorted (x ∷ xs) = rises_placed x (sorted_by cmp xs) (rises_sorted xs)

  filter_placed : (z x : X) (ys : List X) → filter (ties lt z) (placed cmp x ys) ≡ filter (ties lt z) (x ∷ ys)
  filter_placed z x [] = refl
  filter_placed z x (y ∷ ys) =
      let p = ties lt z in
      elim (cases_Bool (lt y x)) [
        | inr above ↦ ap (filter p) (stays x y ys above)
        | inl below ↦
            ap (filter p) (past x y ys below)
            ∙ elim (cases_Bool (p y)) [
              | inr without ↦
                  dropped p y (placed cmp x ys) without ∙ filter_placed z x ys
                  ∙ ap (λ l. cond (p x) (x ∷ l) l) (sym (dropped p y ys without))
              | inl with ↦
                  elim (cases_Bool (p x)) [
                    | inl both ↦
                        let above = ranked.chain y z x (tied lt ranked z y with).1 (tied lt ranked z x both).0 in
                        let clash : true ≡ false = sym below ∙ above in cc
                    | inr only ↦
                        kept p y (placed cmp x ys) with ∙ ap (λ l. y ∷ l) (filter_placed z x ys ∙ dropped p x ys only)
                        ∙ sym (dropped p x (y ∷ ys) only ∙ kept p y ys with)
                  ]
            ]
      ]

  filter_sorted : (z : X) (xs : List X) → filter (ties lt z) (sorted_by cmp xs) ≡ filter (ties lt z) xs
  filter_sorted z [] = refl
  filter_sorted z (x ∷ xs) = filter_placed z x (sorted_by cmp xs) ∙ ap (λ l. cond (ties lt z x) (x ∷ l) l) (filter_sorted z xs)

  placed-IsPermutation : (x : X) (ys : List X) → IsPermutation (x ∷ ys) (placed cmp x ys)
  placed-IsPermutation x [] = IsPermutation-refl (x ∷ [])
  placed-IsPermutation x (y ∷ ys) =
      elim (cases_Bool (lt y x)) [
        | inl below ↦ subst (IsPermutation (x ∷ y ∷ ys)) (sym (past x y ys below)) (IsPermutation-trans _ _ _ (IsPermutation-middle (x ∷ []) y ys) (IsPermutation-cons y _ _ (placed-IsPermutation x ys)))
        | inr above ↦ subst (IsPermutation (x ∷ y ∷ ys)) (sym (stays x y ys above)) (IsPermutation-refl (x ∷ y ∷ ys))
      ]

  -- `sorted_by` has the same elements, in order, ties as they stood, and is the only such list
  pub sorted_by-IsPermutation : (xs : List X) → IsPermutation xs (sorted_by cmp xs)
  sorted_by-IsPermutation [] = IsPermutation-refl []
  sorted_by-IsPermutation (x ∷ xs) = IsPermutation-trans _ _ _ (IsPermutation-cons x _ _ (sorted_by-IsPermutation xs)) (placed-IsPermutation x (sorted_by cmp xs))

  pub sorted_by-IsSorted : (xs : List X) → IsSorted cmp (sorted_by cmp xs)
  sorted_by-IsSorted xs = sorted_from lt ranked (sorted_by cmp xs) (rises_sorted xs)

  pub sorted_by-IsStable : (xs : List X) → IsStable cmp xs (sorted_by cmp xs)
  sorted_by-IsStable xs z = filter_sorted z xs

  pub sorted_by-only : (xs ys : List X) → IsSorted cmp ys → IsStable cmp xs ys → ys ≡ sorted_by cmp xs
  sorted_by-only xs ys up stable = one_stable_order lt ranked xs ys (sorted_by cmp xs) up stable (sorted_by-IsSorted xs) (sorted_by-IsStable xs)

-- sorting by what f makes of the elements, seen through f
module _ {X Y : Type 0} (f : X → Y) (cmp : Y → Y → Ordering) where
  map-placed : (x : X) (ys : List X) → map f (placed (on f cmp) x ys) ≡ placed cmp (f x) (map f ys)
  map-placed x [] = refl
  map-placed x (y ∷ ys) = by (is_lt (cmp (f y) (f x))) (map-placed x ys)
    where
      by : (b : Bool) → map f (placed (on f cmp) x ys) ≡ placed cmp (f x) (map f ys) → map f (cond b (y ∷ placed (on f cmp) x ys) (x ∷ y ∷ ys)) ≡ cond b (f y ∷ placed cmp (f x) (map f ys)) (f x ∷ f y ∷ map f ys)
      by true e = ap (λ l. f y ∷ l) e
      by false e = refl

  pub map-sorted_by : (xs : List X) → map f (sorted_by (on f cmp) xs) ≡ sorted_by cmp (map f xs)
  map-sorted_by [] = refl
  map-sorted_by (x ∷ xs) = map-placed x (sorted_by (on f cmp) xs) ∙ ap (placed cmp (f x)) (map-sorted_by xs)
