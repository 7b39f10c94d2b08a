-- The first number of some that is wanted, and which numbers are.
use Rattle.std.proofs.Common.{◌≡◌, ℕ, zero, suc, ◌+◌, ◌<◌, ◌≤◌, ◌==◌, Bool, true, false, cond, List, ◌∷◌, refl, ap, ap₂, ◌∙◌, arith, eqb-true}
use Rattle.std.proofs.lemmas.Bool.{eqb-false}
use Rattle.std.specs.Prelude.{Option, None, Some, filter, find}
use Rattle.hs_turns.specs.Waiting.{ascending}

pub same_find : (p q : ℕ → Bool) → (n first : ℕ) → ((x : ℕ) → first ≤ x → x < first + n → p x ≡ q x) → find p (ascending first n) ≡ find q (ascending first n)
same_find p q zero first h = refl
same_find p q (suc n) first h =
    ap₂ (λ (b : Bool) (r : Option ℕ). cond b (Some first) r) (h first (omega arith) (omega arith)) (same_find p q n (first + 1) (λ x low high. h x (omega (arith, low)) (omega (arith, high))))

pub same_filter : (p q : ℕ → Bool) → (n first : ℕ) → ((x : ℕ) → first ≤ x → x < first + n → p x ≡ q x) → filter p (ascending first n) ≡ filter q (ascending first n)
same_filter p q zero first h = refl
same_filter p q (suc n) first h =
    ap₂ (λ (b : Bool) (ys : List ℕ). cond b (first ∷ ys) ys) (h first (omega arith) (omega arith)) (same_filter p q n (first + 1) (λ x low high. h x (omega (arith, low)) (omega (arith, high))))

pub found_none : (p : ℕ → Bool) → (n first : ℕ) → ((x : ℕ) → first ≤ x → x < first + n → p x ≡ false) → find p (ascending first n) ≡ None
found_none p zero first h = refl
found_none p (suc n) first h =
    ap (λ (b : Bool). cond b (Some first) (find p (ascending (first + 1) n))) (h first (omega arith) (omega arith))
    ∙ found_none p n (first + 1) (λ x low high. h x (omega (arith, low)) (omega (arith, high)))

pub found_some : (p : ℕ → Bool) (s : ℕ) → (n first : ℕ) → first ≤ s → s < first + n → p s ≡ true → ((x : ℕ) → first ≤ x → x < s → p x ≡ false) → find p (ascending first n) ≡ Some s
found_some p s zero first low high is h = absurd (omega (arith, low, high))
found_some p s (suc n) first low high is h = by (λ up. found_some p s n (first + 1) up (omega (arith, high)) is (λ x l u. h x (omega (arith, l)) u)) (first == s) refl
  where
    by : (first + 1 ≤ s → find p (ascending (first + 1) n) ≡ Some s) → (t : Bool) → (first == s) ≡ t → find p (ascending first (suc n)) ≡ Some s
    by rest true e = let same : first ≡ s = eqb-true first s e in ap (λ (b : Bool). cond b (Some first) (find p (ascending (first + 1) n))) (ap p same ∙ is) ∙ ap Some same
    by rest false ne = let lt : first < s = omega (arith, low, eqb-false first s ne) in ap (λ (b : Bool). cond b (Some first) (find p (ascending (first + 1) n))) (h first (omega arith) lt) ∙ rest (omega (arith, lt))
