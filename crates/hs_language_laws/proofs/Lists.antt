-- What lists have, and what tests find in them.
use Rattle.std.proofs.Common.{◌≡◌, inl, inr, Bool, true, false, ◌&&◌, ◌||◌, List, [], ◌∷◌, refl, sym, ap, subst, ◌∙◌}
use Rattle.std.specs.List.{Contains, flat_map, list_all, list_any}
use Rattle.std.proofs.lemmas.List.Elements.{Contains-append_cases, Contains-append_left, Contains-append_right}
use Rattle.hs_rel.proofs.Selecting.{at_head, head_or_tail, in_tail, nothing_in}

or_right : (a b : Bool) → b ≡ true → (a || b) ≡ true
or_right true b h = refl
or_right false b h = h

both : (a b : Bool) → (a && b) ≡ true → (a ≡ true) × (b ≡ true)
both true b h = (refl, h)
both false b h = absurd cc

module _ {X : Type 0} where
  pub any_in : (p : X → Bool) (xs : List X) → list_any p xs ≡ true → (x : X) × (Contains xs x × (p x ≡ true))
  any_in p [] h = absurd cc
  any_in p (x ∷ xs) h = by (any_in p xs) (p x) refl h
    where
      by : (list_any p xs ≡ true → (y : X) × (Contains xs y × (p y ≡ true))) → (b : Bool) → p x ≡ b → (b || list_any p xs) ≡ true → (y : X) × (Contains (x ∷ xs) y × (p y ≡ true))
      by rest true is h = (x, (at_head x xs, is))
      by rest false is h = let later = rest h in (later.0, (in_tail x xs later.0 later.1.0, later.1.1))

  pub any_from : (p : X → Bool) (xs : List X) (x : X) → Contains xs x → p x ≡ true → list_any p xs ≡ true
  any_from p [] x found is = absurd (nothing_in x found)
  any_from p (y ∷ ys) x found is = elim (head_or_tail y ys x found) [
    | inl same ↦ ap (λ (b : Bool). b || list_any p ys) (ap p same ∙ is)
    | inr later ↦ or_right (p y) (list_any p ys) (any_from p ys x later is)
  ]

  pub all_at : (p : X → Bool) (xs : List X) → list_all p xs ≡ true → (x : X) → Contains xs x → p x ≡ true
  all_at p [] h x found = absurd (nothing_in x found)
  all_at p (y ∷ ys) h x found = elim (head_or_tail y ys x found) [
    | inl same ↦ ap p (sym same) ∙ (both (p y) (list_all p ys) h).0
    | inr later ↦ all_at p ys (both (p y) (list_all p ys) h).1 x later
  ]

  -- a list that has nothing
  pub empty_of : (xs : List X) → ((x : X) → Contains xs x → ⊥) → xs ≡ []
  empty_of [] none = refl
  empty_of (x ∷ xs) none = absurd (none x (at_head x xs))

module _ {X Y : Type 0} (f : X → List Y) where
  pub from_flat : (xs : List X) (y : Y) → Contains (flat_map f xs) y → (x : X) × (Contains xs x × Contains (f x) y)
  from_flat [] y found = absurd (nothing_in y found)
  from_flat (x ∷ xs) y found = elim (Contains-append_cases (f x) (flat_map f xs) y found) [
    | inl here ↦ (x, (at_head x xs, here))
    | inr later ↦ let rest = from_flat xs y later in (rest.0, (in_tail x xs rest.0 rest.1.0, rest.1.1))
  ]

  pub to_flat : (xs : List X) (x : X) (y : Y) → Contains xs x → Contains (f x) y → Contains (flat_map f xs) y
  to_flat [] x y found at = absurd (nothing_in x found)
  to_flat (z ∷ xs) x y found at = elim (head_or_tail z xs x found) [
    | inl same ↦ Contains-append_left (f z) (flat_map f xs) y (subst (λ (w : X). Contains (f w) y) (sym same) at)
    | inr later ↦ Contains-append_right (f z) (flat_map f xs) y (to_flat xs x y later at)
  ]
