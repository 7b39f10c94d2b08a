-- Numbers in order: the same ones, each below the next.
use Rattle.std.proofs.Common.{◌≡◌, ℕ, zero, suc, ◌+◌, ◌<◌, Bool, true, false, cond, ◌||◌, nat_eq, List, [], ◌∷◌, refl, ap, ◌∙◌, length, slice_index, subst, arith}
use Rattle.std.specs.Prelude.{nat_lt}
use Rattle.std.specs.List.Sorted.{IsStrictlyIncreasing}
use Rattle.std.proofs.lemmas.Bool.{ltb-false, ltb-true}
use Rattle.hs_closure.specs.Sets.{is_in}
use Rattle.hs_reached.specs.Reached.{in_order, with_number}

-- ---- the same numbers

or_swap : (a b c : Bool) → (a || (b || c)) ≡ (b || (a || c))
or_swap true true c = refl
or_swap true false c = refl
or_swap false b c = refl

or_again : (a c : Bool) → (a || c) ≡ (a || (a || c))
or_again true c = refl
or_again false c = refl

-- neither is below the other
level : (n m : ℕ) → nat_lt n m ≡ false → nat_lt m n ≡ false → m ≡ n
level n m one other = let low = ltb-false n m one in let high = ltb-false m n other in omega (arith, low, high)

with_one : (n k : ℕ) (ms : List ℕ) → is_in (with_number n ms) k ≡ (nat_eq k n || is_in ms k)
with_one n k [] = refl
with_one n k (m ∷ ms) = by (nat_lt n m) refl (nat_lt m n) refl (with_one n k ms)
  where
    by : (b : Bool) → nat_lt n m ≡ b → (c : Bool) → nat_lt m n ≡ c → is_in (with_number n ms) k ≡ (nat_eq k n || is_in ms k)
        → is_in (cond b (n ∷ m ∷ ms) (cond c (m ∷ with_number n ms) (m ∷ ms))) k ≡ (nat_eq k n || (nat_eq k m || is_in ms k))
    by true below c e rest = refl
    by false above true below rest = ap (λ z. nat_eq k m || z) rest ∙ or_swap (nat_eq k m) (nat_eq k n) (is_in ms k)
    by false above false under rest =
        or_again (nat_eq k m) (is_in ms k) ∙ ap (λ z. nat_eq k z || (nat_eq k m || is_in ms k)) (level n m above under)

pub same_numbers : (ns : List ℕ) (k : ℕ) → is_in (in_order ns) k ≡ is_in ns k
same_numbers [] k = refl
same_numbers (n ∷ ns) k = with_one n k (in_order ns) ∙ ap (λ z. nat_eq k n || z) (same_numbers ns k)

-- ---- each below the next

-- behind this number each is below the next
abbrev Rises : ℕ → List ℕ → Type 0
Rises n [] = Unit {0}
Rises n (m ∷ ms) = (n < m) × Rises m ms

abbrev RisesAll : List ℕ → Type 0
RisesAll [] = Unit {0}
RisesAll (n ∷ ns) = Rises n ns

rises_with : (l n : ℕ) (ms : List ℕ) → l < n → Rises l ms → Rises l (with_number n ms)
rises_with l n [] low up = (low, tt)
rises_with l n (m ∷ ms) low up = by (nat_lt n m) refl (nat_lt m n) refl (λ h. rises_with m n ms h up.1)
  where
    by : (b : Bool) → nat_lt n m ≡ b → (c : Bool) → nat_lt m n ≡ c → (m < n → Rises m (with_number n ms)) → Rises l (cond b (n ∷ m ∷ ms) (cond c (m ∷ with_number n ms) (m ∷ ms)))
    by true below c e rest = (low, (ltb-true n m below, up.1))
    by false above true below rest = (up.0, rest (ltb-true m n below))
    by false above false under rest = up

all_with : (n : ℕ) (ms : List ℕ) → RisesAll ms → RisesAll (with_number n ms)
all_with n [] up = tt
all_with n (m ∷ ms) up = by (nat_lt n m) refl (nat_lt m n) refl
  where
    by : (b : Bool) → nat_lt n m ≡ b → (c : Bool) → nat_lt m n ≡ c → RisesAll (cond b (n ∷ m ∷ ms) (cond c (m ∷ with_number n ms) (m ∷ ms)))
    by true below c e = (ltb-true n m below, up)
    by false above true below = rises_with m n ms (ltb-true m n below) up
    by false above false under = up

rises : (ns : List ℕ) → RisesAll (in_order ns)
rises [] = tt
rises (n ∷ ns) = all_with n (in_order ns) (rises ns)

first_below : (n m : ℕ) (ms : List ℕ) → n < m → IsStrictlyIncreasing (m ∷ ms) → (k : ℕ) → k + 1 < length (n ∷ m ∷ ms) → slice_index (n ∷ m ∷ ms) k < slice_index (n ∷ m ∷ ms) (k + 1)
first_below n m ms low rest zero within = low
first_below n m ms low rest (suc k) within =
    let next : suc (k + 1) ≡ suc k + 1 = omega arith in
    subst (λ z. slice_index (n ∷ m ∷ ms) (suc k) < slice_index (n ∷ m ∷ ms) z) next (rest k (omega (arith, within)))

increasing_behind : (n : ℕ) (ms : List ℕ) → Rises n ms → IsStrictlyIncreasing (n ∷ ms)
increasing_behind n [] up = λ k within. absurd (omega (arith, within))
increasing_behind n (m ∷ ms) up = first_below n m ms up.0 (increasing_behind m ms up.1)

increasing : (ns : List ℕ) → RisesAll ns → IsStrictlyIncreasing ns
increasing [] up = λ k within. absurd (omega (arith, within))
increasing (n ∷ ns) up = increasing_behind n ns up

pub ascends : (ns : List ℕ) → IsStrictlyIncreasing (in_order ns)
ascends ns = increasing (in_order ns) (rises ns)
