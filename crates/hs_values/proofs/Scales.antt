-- Decimals of other scales, compared by whole numbers.
use Rattle.std.proofs.Common.{◌≡◌, ℕ, zero, suc, ◌+◌, ◌-◌, ◌*◌, ◌^◌, ◌<◌, ◌≤◌, ℤ, pos, negsuc, neg_ℤ, ◌*ℤ◌, ◌<ℤ◌, refl, sym, ap, subst, ◌∙◌, arith, FitsSigned}
use Rattle.std.specs.Int.{w128}
use Rattle.std.specs.declared.cmp.Ordering.{Ordering}
use Rattle.std.specs.declared.cmp.Ordering.TheVariants.{Less, Equal, Greater}
use Rattle.std.specs.Ordering.{int_cmp, MatchOrdering, ordering_reverse}
use Rattle.std.specs.Cmp.{IsTotalOrder, int_ranks, int_cmp_is, int_cmp_total, int_ranked}
use Rattle.std.proofs.lemmas.Int.{ints, fits_signed_from_abs, unsigned_abs-mul}
use Rattle.std.specs.Prelude.{unsigned_abs}
use Rattle.std.proofs.lemmas.Nat.{pow-add}
use Rattle.std.proofs.Math.Nat.{mul-lt-mul_of_pos_right, one-le-pow, pow-le-pow_right, mul_assoc, zero-mul, mul_comm, le-mul_of_pos_right}
use borrow.Author.Differences.{up, down}
use Rattle.hs_values.specs.Order.{number_cmp}
pub use Rattle.hs_values.specs.NumberOrder.{times_times, compared_times, ten_positive, below_times}

-- at one scale neither need be raised
pub level_cmp : (a b : ℤ) (p q : ℕ) → p ≡ q → int_cmp a b ≡ int_cmp (a *ℤ pos (10 ^ q)) (b *ℤ pos (10 ^ p))
level_cmp a b p q e = sym (compared_times a b (10 ^ q) (ten_positive q)) ∙ ap (λ k. int_cmp (a *ℤ pos (10 ^ q)) (b *ℤ pos (10 ^ k))) (sym e)

-- at the greater scale one of them need not be raised
pub raised_cmp : (a b : ℤ) (p q : ℕ) → p ≤ q → int_cmp (a *ℤ pos (10 ^ (q - p))) b ≡ int_cmp (a *ℤ pos (10 ^ q)) (b *ℤ pos (10 ^ p))
raised_cmp a b p q le =
    sym (compared_times (a *ℤ pos (10 ^ (q - p))) b (10 ^ p) (ten_positive p))
    ∙ ap (λ x. int_cmp x (b *ℤ pos (10 ^ p))) (times_times a (10 ^ (q - p)) (10 ^ p) ∙ ap (λ x. a *ℤ pos x) (sym (pow-add 10 (q - p) p) ∙ ap (λ x. 10 ^ x) (omega arith)))

size_of_fitting : (z : ℤ) → FitsSigned w128 z → unsigned_abs z ≤ 2 ^ 127
size_of_fitting (pos n) h = omega (arith, h.sfits)
size_of_fitting (negsuc n) h = omega (arith, h.sfits)

size_positive : (z : ℤ) → ¬ (z ≡ pos 0) → 0 < unsigned_abs z
size_positive (pos zero) h = absurd (h refl)
size_positive (pos (suc n)) h = omega arith
size_positive (negsuc n) h = omega arith

-- any number but 0 with 39 noughts is too wide
pub too_many_noughts : (z : ℤ) (k : ℕ) → ¬ (z ≡ pos 0) → 38 < k → ¬ (FitsSigned w128 (z *ℤ pos (10 ^ k)))
too_many_noughts z k some many fits =
    let most : 10 ^ 39 ≤ 10 ^ k = pow-le-pow_right {n = 10} (omega arith) {i = 39} (omega arith) in
    let size : unsigned_abs (z *ℤ pos (10 ^ k)) ≡ unsigned_abs z * 10 ^ k = unsigned_abs-mul z (pos (10 ^ k)) in
    let all : 10 ^ k ≤ 10 ^ k * unsigned_abs z = le-mul_of_pos_right (10 ^ k) (size_positive z some) in
    omega (arith, size_of_fitting _ fits, mul_comm (unsigned_abs z) (10 ^ k))

far_up : (n : ℕ) → ¬ (FitsSigned w128 (pos n)) → 2 ^ 127 ≤ n
far_up n wide = grind (arith, fits_signed_from_abs w128 (pos n))

fits_down : (n : ℕ) → n < 2 ^ 127 → FitsSigned w128 (negsuc n)
fits_down n h = record { sfits = h }

far_down : (n : ℕ) → ¬ (FitsSigned w128 (negsuc n)) → 2 ^ 127 ≤ n
far_down n wide = grind (arith, fits_down n)

-- what is too wide is above or below all that fits
above_all : (z b : ℤ) → ¬ (FitsSigned w128 z) → FitsSigned w128 b → pos 0 <ℤ z → b <ℤ z
above_all (pos n) b wide fits h = let far = far_up n wide in omega (arith, ints)
above_all (negsuc n) b wide fits h = absurd (omega (arith, ints))

below_all : (z b : ℤ) → ¬ (FitsSigned w128 z) → FitsSigned w128 b → z <ℤ pos 0 → z <ℤ b
below_all (pos n) b wide fits h = absurd (omega (arith, ints))
below_all (negsuc n) b wide fits h = let far = far_down n wide in omega (arith, ints)

outside : (a b : ℤ) (k : ℕ) (r : Ordering) → 0 < k → ¬ (FitsSigned w128 (a *ℤ pos k)) → FitsSigned w128 b → MatchOrdering r (a <ℤ pos 0) (a ≡ pos 0) (pos 0 <ℤ a) → MatchOrdering r ((a *ℤ pos k) <ℤ b) (a *ℤ pos k ≡ b) (b <ℤ (a *ℤ pos k))
outside a b k Less p wide fits h = below_all _ b wide fits (subst (λ x. (a *ℤ pos k) <ℤ x) (ap pos (zero-mul k)) (below_times a (pos 0) k p h))
outside a b k Equal p wide fits h = absurd (wide (subst (λ x. FitsSigned w128 x) (sym (ap (λ x. x *ℤ pos k) h ∙ ap pos (zero-mul k))) (record { sfits = omega arith })))
outside a b k Greater p wide fits h = above_all _ b wide fits (subst (λ x. x <ℤ (a *ℤ pos k)) (ap pos (zero-mul k)) (below_times (pos 0) a k p h))

-- so its sign decides
pub signs_of_wide : (a b : ℤ) (k : ℕ) → 0 < k → FitsSigned w128 b → ¬ (FitsSigned w128 (a *ℤ pos k)) → int_cmp a (pos 0) ≡ int_cmp (a *ℤ pos k) b
signs_of_wide a b k p fits wide = int_cmp_is (a *ℤ pos k) b (int_cmp a (pos 0)) (outside a b k (int_cmp a (pos 0)) p wide fits (int_ranks a (pos 0)))

pub lowered_cmp : (a b : ℤ) (p q : ℕ) → p ≤ q → ordering_reverse (int_cmp (a *ℤ pos (10 ^ (q - p))) b) ≡ int_cmp (b *ℤ pos (10 ^ p)) (a *ℤ pos (10 ^ q))
lowered_cmp a b p q le = ap ordering_reverse (raised_cmp a b p q le) ∙ sym (int_cmp_total.antisymm (b *ℤ pos (10 ^ p)) (a *ℤ pos (10 ^ q)))
