-- Tests of all items of a list, as items come and go.
use Rattle.std.proofs.Common.{◌≡◌, Bool, true, false, cond, not, ◌&&◌, filter, find, List, [], ◌∷◌, ◌++◌, map, None, Some, refl}
use Rattle.std.proofs.lemmas.Bool.{and_from, and_parts}
use Rattle.std.specs.List.{flat_map, list_all}

module _ {X : Type 0} where
  pub all_weaker : (p q : X → Bool) → ((x : X) → p x ≡ true → q x ≡ true) → (xs : List X) → list_all p xs ≡ true → list_all q xs ≡ true
  all_weaker p q so [] h = refl
  all_weaker p q so (x ∷ xs) h = let parts = and_parts (p x) (list_all p xs) h in and_from (q x) (list_all q xs) (so x parts.0) (all_weaker p q so xs parts.1)

  pub all_both : (p : X → Bool) (xs ys : List X) → list_all p xs ≡ true → list_all p ys ≡ true → list_all p (xs ++ ys) ≡ true
  all_both p [] ys a b = b
  all_both p (x ∷ xs) ys a b = let parts = and_parts (p x) (list_all p xs) a in and_from (p x) (list_all p (xs ++ ys)) parts.0 (all_both p xs ys parts.1 b)

  pub all_split : (p : X → Bool) (xs ys : List X) → list_all p (xs ++ ys) ≡ true → (list_all p xs ≡ true) × (list_all p ys ≡ true)
  all_split p [] ys h = (refl, h)
  all_split p (x ∷ xs) ys h =
      let parts = and_parts (p x) (list_all p (xs ++ ys)) h in
      let rest = all_split p xs ys parts.1 in
      (and_from (p x) (list_all p xs) parts.0 rest.0, rest.1)

  -- two tests at once
  pub all_and : (p q : X → Bool) (xs : List X) → list_all p xs ≡ true → list_all q xs ≡ true → list_all (λ x. p x && q x) xs ≡ true
  all_and p q [] a b = refl
  all_and p q (x ∷ xs) a b =
      let one = and_parts (p x) (list_all p xs) a in
      let two = and_parts (q x) (list_all q xs) b in
      and_from (p x && q x) (list_all (λ y. p y && q y) xs) (and_from (p x) (q x) one.0 two.0) (all_and p q xs one.1 two.1)

  -- what stays of a list
  pub all_filtered : (keep p q : X → Bool) → ((x : X) → keep x ≡ true → p x ≡ true → q x ≡ true) → (xs : List X) → list_all p xs ≡ true → list_all q (filter keep xs) ≡ true
  all_filtered keep p q so [] h = refl
  all_filtered keep p q so (x ∷ xs) h = let parts = and_parts (p x) (list_all p xs) h in by (keep x) refl parts.0 (all_filtered keep p q so xs parts.1)
    where
      by : (b : Bool) → keep x ≡ b → p x ≡ true → list_all q (filter keep xs) ≡ true → list_all q (cond b (x ∷ filter keep xs) (filter keep xs)) ≡ true
      by true e here rest = and_from (q x) (list_all q (filter keep xs)) (so x e here) rest
      by false e here rest = rest

  -- where none is found, each fails the test
  pub none_found : (p : X → Bool) (xs : List X) → find p xs ≡ None → list_all (λ x. not (p x)) xs ≡ true
  none_found p [] h = refl
  none_found p (x ∷ xs) h = by (p x) h (none_found p xs)
    where
      by : (b : Bool) → cond b (Some x) (find p xs) ≡ None → (find p xs ≡ None → list_all (λ y. not (p y)) xs ≡ true) → (not b && list_all (λ y. not (p y)) xs) ≡ true
      by true h rest = cc
      by false h rest = rest h

  pub all_mapped : {Y : Type 0} (p : Y → Bool) (f : X → Y) (xs : List X) → list_all (λ x. p (f x)) xs ≡ true → list_all p (map f xs) ≡ true
  all_mapped p f [] h = refl
  all_mapped p f (x ∷ xs) h = let parts = and_parts (p (f x)) (list_all (λ y. p (f y)) xs) h in and_from (p (f x)) (list_all p (map f xs)) parts.0 (all_mapped p f xs parts.1)

  pub all_unmapped : {Y : Type 0} (p : Y → Bool) (f : X → Y) (xs : List X) → list_all p (map f xs) ≡ true → list_all (λ x. p (f x)) xs ≡ true
  all_unmapped p f [] h = refl
  all_unmapped p f (x ∷ xs) h = let parts = and_parts (p (f x)) (list_all p (map f xs)) h in and_from (p (f x)) (list_all (λ y. p (f y)) xs) parts.0 (all_unmapped p f xs parts.1)

module _ {X Y : Type 0} (f : X → List Y) where
  -- what comes of what stays
  pub flat_filtered : (keep : X → Bool) (p q : Y → Bool) → ((x : X) → keep x ≡ true → list_all p (f x) ≡ true → list_all q (f x) ≡ true) → (xs : List X) → list_all p (flat_map f xs) ≡ true → list_all q (flat_map f (filter keep xs)) ≡ true
  flat_filtered keep p q so [] h = refl
  flat_filtered keep p q so (x ∷ xs) h = let parts = all_split p (f x) (flat_map f xs) h in by (keep x) refl parts.0 (flat_filtered keep p q so xs parts.1)
    where
      by : (b : Bool) → keep x ≡ b → list_all p (f x) ≡ true → list_all q (flat_map f (filter keep xs)) ≡ true → list_all q (flat_map f (cond b (x ∷ filter keep xs) (filter keep xs))) ≡ true
      by true e here rest = all_both q (f x) (flat_map f (filter keep xs)) (so x e here) rest
      by false e here rest = rest
