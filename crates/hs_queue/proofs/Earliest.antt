-- The least of the numbers at places, place by place.
use Rattle.std.proofs.Common.{◌≡◌, ℕ, ◌+◌, ◌<◌, ◌≤◌, ◌⊎◌, inl, inr, Bool, true, false, refl, sym, ◌∙◌, subst, ap, arith}
use Rattle.std.specs.Prelude.{Option, None, Some, nat_le}
use Rattle.std.proofs.lemmas.Bool.{cases_eq}
use Rattle.hs_queue.specs.Earliest.{IsLeast, IsFirst, lesser_at, lesser_of}

module _ (f : ℕ → Option ℕ) (n : ℕ) where
  below : (k : ℕ) → k < n + 1 → (k ≡ n → ⊥) → k < n
  below k lt other = omega (arith, lt, other)

  none_more : IsLeast f n None → f n ≡ None → (k : ℕ) → k < n + 1 → ((k ≡ n) ⊎ (k ≡ n → ⊥)) → f k ≡ None
  none_more old at k lt (inl e) = ap f e ∙ at
  none_more old at k lt (inr e) = old k (below k lt e)

  some_is : (a b : ℕ) → Some a ≡ Some b → a ≡ b
  some_is a b e = cc

  first_least : (number : ℕ) → IsLeast f n None → f n ≡ Some number → (k x : ℕ) → k < n + 1 → ((k ≡ n) ⊎ (k ≡ n → ⊥)) → f k ≡ Some x → number ≤ x
  first_least number old at k x lt (inl e) is = let h : number ≡ x = some_is number x (sym at ∙ ap f (sym e) ∙ is) in omega (arith, h)
  first_least number old at k x lt (inr e) is = let h : None ≡ Some x = sym (old k (below k lt e)) ∙ is in absurd cc

  kept_least : (best number : ℕ) → ((k x : ℕ) → k < n → f k ≡ Some x → best ≤ x) → best ≤ number → f n ≡ Some number → (k x : ℕ) → k < n + 1 → ((k ≡ n) ⊎ (k ≡ n → ⊥)) → f k ≡ Some x → best ≤ x
  kept_least best number old le at k x lt (inl e) is = let h : number ≡ x = some_is number x (sym at ∙ ap f (sym e) ∙ is) in omega (arith, h, le)
  kept_least best number old le at k x lt (inr e) is = old k x (below k lt e) is

  new_least : (best number : ℕ) → ((k x : ℕ) → k < n → f k ≡ Some x → best ≤ x) → number ≤ best → f n ≡ Some number → (k x : ℕ) → k < n + 1 → ((k ≡ n) ⊎ (k ≡ n → ⊥)) → f k ≡ Some x → number ≤ x
  new_least best number old le at k x lt (inl e) is = let h : number ≡ x = some_is number x (sym at ∙ ap f (sym e) ∙ is) in omega (arith, h)
  new_least best number old le at k x lt (inr e) is = let h : best ≤ x = old k x (below k lt e) is in omega (arith, h, le)

  same_least : (best : ℕ) → ((k x : ℕ) → k < n → f k ≡ Some x → best ≤ x) → f n ≡ None → (k x : ℕ) → k < n + 1 → ((k ≡ n) ⊎ (k ≡ n → ⊥)) → f k ≡ Some x → best ≤ x
  same_least best old at k x lt (inl e) is = let h : None ≡ Some x = sym at ∙ ap f (sym e) ∙ is in absurd cc
  same_least best old at k x lt (inr e) is = old k x (below k lt e) is

  compared : (b : Bool) (best : ℕ × ℕ) (number : ℕ) → nat_le best.1 number ≡ b → IsLeast f n (Some best) → f n ≡ Some number → IsLeast f (n + 1) (Some (lesser_at b best n number))
  compared true best number e old at = (omega (arith, old.0), old.1, λ k x lt is. kept_least best.1 number old.2 (grind (arith, e)) at k x lt (cases_eq k n) is)
  compared false best number e old at = (omega arith, at, λ k x lt is. new_least best.1 number old.2 (grind (arith, e)) at k x lt (cases_eq k n) is)

  pub step : (best : Option (ℕ × ℕ)) (number : Option ℕ) → IsLeast f n best → f n ≡ number → IsLeast f (n + 1) (lesser_of best n number)
  step None None old at = λ k lt. none_more old at k lt (cases_eq k n)
  step (Some best) None old at = (omega (arith, old.0), old.1, λ k x lt is. same_least best.1 old.2 at k x lt (cases_eq k n) is)
  step None (Some number) old at = (omega arith, at, λ k x lt is. first_least number old at k x lt (cases_eq k n) is)
  step (Some best) (Some number) old at = compared (nat_le best.1 number) best number refl old at

  pub first : (best : Option (ℕ × ℕ)) (place : Option ℕ) → IsLeast f n best → (elim best as (λ _. Option ℕ) [ None ↦ None | Some b ↦ Some b.0 ]) ≡ place → IsFirst f n place
  first None None l e = l
  first None (Some place) l e = absurd cc
  first (Some best) None l e = absurd cc
  first (Some best) (Some place) l e = let h : best.0 ≡ place = some_is best.0 place e in subst (λ (p : ℕ). IsFirst f n (Some p)) h (best.1, l)
