-- Elements of lists, and tests of each.
use Rattle.std.proofs.Common.{◌≡◌, inl, inr, ℕ, Bool, true, false, List, [], ◌∷◌, map, Some, refl, sym, ap, subst, ◌∙◌, slice_get}
use Rattle.std.specs.List.{Contains, flat_map, list_all, list_any}
use Rattle.std.proofs.lemmas.Bool.{and_from, and_parts, or_cases, or_left, or_right}
use Rattle.std.proofs.lemmas.List.Elements.{Contains-append_cases, Contains-append_left, Contains-append_right}
use Rattle.std.proofs.lemmas.Option.{slice_get-get_or, slice_get_within, get_or_from_slice_get}
use Rattle.hs_rel.proofs.Selecting.{at_head, head_or_tail, in_tail, nothing_in}

-- ---- elements

pub get_contained : {X : Type 0} (xs : List X) (x : X) → Contains xs x → (place : ℕ) × (slice_get xs place ≡ Some x)
get_contained xs x found = (found.0, slice_get-get_or xs found.0 x found.1 ∙ ap (λ y. Some y) found.2)

pub contained_get : {X : Type 0} (xs : List X) (place : ℕ) (x : X) → slice_get xs place ≡ Some x → Contains xs x
contained_get xs place x is = (place, slice_get_within xs place x is, get_or_from_slice_get xs place x x is)

pub in_flat : {X Y : Type 0} (f : X → List Y) (xs : List X) (y : Y) → Contains (flat_map f xs) y → (x : X) × Contains xs x × Contains (f x) y
in_flat f [] y found = absurd (nothing_in y found)
in_flat f (x ∷ xs) y found = elim (Contains-append_cases (f x) (flat_map f xs) y found) [
  | inl here ↦ (x, at_head x xs, here)
  | inr later ↦ let rest = in_flat f xs y later in (rest.0, in_tail x xs rest.0 rest.1, rest.2)
]

pub to_flat : {X Y : Type 0} (f : X → List Y) (xs : List X) (x : X) (y : Y) → Contains xs x → Contains (f x) y → Contains (flat_map f xs) y
to_flat f [] x y found its = absurd (nothing_in x found)
to_flat f (z ∷ xs) x y found its = elim (head_or_tail z xs x found) [
  | inl is ↦ Contains-append_left (f z) (flat_map f xs) y (subst (λ w. Contains (f w) y) (sym is) its)
  | inr later ↦ Contains-append_right (f z) (flat_map f xs) y (to_flat f xs x y later its)
]

pub in_mapped : {X Y : Type 0} (f : X → Y) (xs : List X) (y : Y) → Contains (map f xs) y → (x : X) × Contains xs x × (f x ≡ y)
in_mapped f [] y found = absurd (nothing_in y found)
in_mapped f (x ∷ xs) y found = elim (head_or_tail (f x) (map f xs) y found) [
  | inl is ↦ (x, at_head x xs, is)
  | inr later ↦ let rest = in_mapped f xs y later in (rest.0, in_tail x xs rest.0 rest.1, rest.2)
]

-- ---- tests

pub all_at : {X : Type 0} (p : X → Bool) (xs : List X) (x : X) → list_all p xs ≡ true → Contains xs x → p x ≡ true
all_at p [] x h found = absurd (nothing_in x found)
all_at p (y ∷ xs) x h found =
    let parts = and_parts (p y) (list_all p xs) h in
    elim (head_or_tail y xs x found) [
      | inl is ↦ ap p (sym is) ∙ parts.0
      | inr later ↦ all_at p xs x parts.1 later
    ]

pub all_from : {X : Type 0} (p : X → Bool) (xs : List X) → ((x : X) → Contains xs x → p x ≡ true) → list_all p xs ≡ true
all_from p [] h = refl
all_from p (x ∷ xs) h = and_from (p x) (list_all p xs) (h x (at_head x xs)) (all_from p xs (λ y found. h y (in_tail x xs y found)))

pub all_in_flat : {X Y : Type 0} (p : Y → Bool) (f : X → List Y) (xs : List X) (x : X) → list_all p (flat_map f xs) ≡ true → Contains xs x → list_all p (f x) ≡ true
all_in_flat p f xs x h found = all_from p (f x) (λ y its. all_at p (flat_map f xs) y h (to_flat f xs x y found its))

pub all_weaker : {X : Type 0} (p q : X → Bool) → ((x : X) → p x ≡ true → q x ≡ true) → (xs : List X) → list_all p xs ≡ true → list_all q xs ≡ true
all_weaker p q f [] h = refl
all_weaker p q f (x ∷ xs) h = let parts = and_parts (p x) (list_all p xs) h in and_from (q x) (list_all q xs) (f x parts.0) (all_weaker p q f xs parts.1)

pub any_found : {X : Type 0} (p : X → Bool) (xs : List X) → list_any p xs ≡ true → (x : X) × Contains xs x × (p x ≡ true)
any_found p [] h = absurd (let no : false ≡ true = h in cc)
any_found p (x ∷ xs) h = elim (or_cases (p x) (list_any p xs) h) [
  | inl here ↦ (x, at_head x xs, here)
  | inr later ↦ let rest = any_found p xs later in (rest.0, in_tail x xs rest.0 rest.1, rest.2)
]

pub any_from : {X : Type 0} (p : X → Bool) (xs : List X) (x : X) → Contains xs x → p x ≡ true → list_any p xs ≡ true
any_from p [] x found h = absurd (nothing_in x found)
any_from p (y ∷ xs) x found h = elim (head_or_tail y xs x found) [
  | inl is ↦ or_left (p y) (list_any p xs) (ap p is ∙ h)
  | inr later ↦ or_right (p y) (list_any p xs) (any_from p xs x later h)
]
