-- Numbers of sessions, ascending.
use Rattle.std.proofs.Common.{◌≡◌, ℕ, zero, suc, ◌+◌, ◌<◌, ◌≤◌, ◌==◌, ◌||◌, Bool, true, false, cond, List, ◌∷◌, refl, ap, ap₂, ◌∙◌, arith, eqb-true, inl, inr}
use Rattle.std.proofs.lemmas.Bool.{eqb-false}
use Rattle.std.specs.Prelude.{None, Some, find, filter}
use Rattle.hs_turns.specs.Waiting.{ascending, is_among}
use Rattle.hs_turns.proofs.Counting.{or_cases, or_second}

pub same_filter : (p q : ℕ → Bool) → (n first : ℕ) → ((x : ℕ) → first ≤ x → x < first + n → p x ≡ q x) → filter p (ascending first n) ≡ filter q (ascending first n)
same_filter p q zero first h = refl
same_filter p q (suc n) first h =
    ap₂ (λ (b : Bool) (ys : List ℕ). cond b (first ∷ ys) ys) (h first (omega arith) (omega arith)) (same_filter p q n (first + 1) (λ x low high. h x (omega (arith, low)) (omega (arith, high))))

-- ---- the first that passes two tests

pub first_none : (p q : ℕ → Bool) → (n first : ℕ) → ((x : ℕ) → first ≤ x → x < first + n → q x ≡ true → p x ≡ false) → find p (filter q (ascending first n)) ≡ None
first_none p q zero first h = refl
first_none p q (suc n) first h = by (q first) refl (first_none p q n (first + 1) (λ x low high. h x (omega (arith, low)) (omega (arith, high))))
  where
    by : (t : Bool) → q first ≡ t → find p (filter q (ascending (first + 1) n)) ≡ None → find p (cond t (first ∷ filter q (ascending (first + 1) n)) (filter q (ascending (first + 1) n))) ≡ None
    by true is e = ap (λ (b : Bool). cond b (Some first) (find p (filter q (ascending (first + 1) n)))) (h first (omega arith) (omega arith) is) ∙ e
    by false is e = e

pub first_some : (p q : ℕ → Bool) (b : ℕ) → (n first : ℕ) → first ≤ b → b < first + n → q b ≡ true → p b ≡ true → ((x : ℕ) → first ≤ x → x < b → q x ≡ true → p x ≡ false) → find p (filter q (ascending first n)) ≡ Some b
first_some p q b zero first low high qb pb h = absurd (omega (arith, low, high))
first_some p q b (suc n) first low high qb pb h = by (λ up. first_some p q b n (first + 1) up (omega (arith, high)) qb pb (λ x l u. h x (omega (arith, l)) u)) (first == b) refl
  where
    here : first ≡ b → find p (cond (q first) (first ∷ filter q (ascending (first + 1) n)) (filter q (ascending (first + 1) n))) ≡ Some b
    here e = ap (λ (t : Bool). find p (cond t (first ∷ filter q (ascending (first + 1) n)) (filter q (ascending (first + 1) n)))) (ap q e ∙ qb)
        ∙ ap (λ (t : Bool). cond t (Some first) (find p (filter q (ascending (first + 1) n)))) (ap p e ∙ pb) ∙ ap Some e

    later : find p (filter q (ascending (first + 1) n)) ≡ Some b → (first == b) ≡ false → (t : Bool) → q first ≡ t → find p (cond t (first ∷ filter q (ascending (first + 1) n)) (filter q (ascending (first + 1) n))) ≡ Some b
    later rest ne true is = ap (λ (t : Bool). cond t (Some first) (find p (filter q (ascending (first + 1) n)))) (h first (omega arith) (omega (arith, low, eqb-false first b ne)) is) ∙ rest
    later rest ne false is = rest

    by : (first + 1 ≤ b → find p (filter q (ascending (first + 1) n)) ≡ Some b) → (t : Bool) → (first == b) ≡ t → find p (filter q (ascending first (suc n))) ≡ Some b
    by rest true e = here (eqb-true first b e)
    by rest false ne = later (rest (omega (arith, low, eqb-false first b ne))) ne (q first) refl

-- ---- who is among them

pub among : (s : ℕ) → (n first : ℕ) → first ≤ s → s < first + n → is_among s (ascending first n) ≡ true
among s zero first low high = absurd (omega (arith, low, high))
among s (suc n) first low high = by (λ up. among s n (first + 1) up (omega (arith, high))) (first == s) refl
  where
    by : (first + 1 ≤ s → is_among s (ascending (first + 1) n) ≡ true) → (t : Bool) → (first == s) ≡ t → ((first == s) || is_among s (ascending (first + 1) n)) ≡ true
    by rest true e = ap (λ (c : Bool). c || is_among s (ascending (first + 1) n)) e
    by rest false ne = or_second (first == s) (is_among s (ascending (first + 1) n)) (rest (omega (arith, low, eqb-false first s ne)))

pub among_is : (s : ℕ) → (n first : ℕ) → is_among s (ascending first n) ≡ true → (first ≤ s) × (s < first + n)
among_is s zero first h = absurd cc
among_is s (suc n) first h = elim (or_cases (first == s) (is_among s (ascending (first + 1) n)) h) [
  | inl e ↦ let is = eqb-true first s e in (omega (arith, is), omega (arith, is))
  | inr k ↦ let rest = among_is s n (first + 1) k in (omega (arith, rest.0), omega (arith, rest.1))
]
