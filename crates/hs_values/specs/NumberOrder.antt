-- Decimals are in a total order, as the numbers that they are.
use Rattle.std.proofs.Common.{◌≡◌, ℕ, zero, suc, ◌+◌, ◌*◌, ◌^◌, ◌<◌, ℤ, pos, negsuc, neg_ℤ, ◌*ℤ◌, ◌<ℤ◌, refl, sym, ap, ◌∙◌, arith}
use Rattle.std.specs.declared.cmp.Ordering.{Ordering}
use Rattle.std.specs.declared.cmp.Ordering.TheVariants.{Less, Equal, Greater}
use Rattle.std.specs.Ordering.{int_cmp, MatchOrdering}
use Rattle.std.specs.Cmp.{IsTotalOrder, int_ranks, int_cmp_is, int_cmp_total, int_ranked}
use Rattle.std.proofs.lemmas.Int.{ints}
use Rattle.std.proofs.Math.Nat.{mul-lt-mul_of_pos_right, one-le-pow, mul_assoc, zero-mul, mul_comm}
use borrow.Author.Differences.{up, down}
use Rattle.hs_values.specs.Order.{number_cmp}

parts_down : (m : ℕ) → (up (neg_ℤ (pos m)) ≡ 0) × (down (neg_ℤ (pos m)) ≡ m)
parts_down zero = (refl, refl)
parts_down (suc m) = (refl, refl)

parts_times : (a : ℤ) (k : ℕ) → (up (a *ℤ pos k) ≡ up a * k) × (down (a *ℤ pos k) ≡ down a * k)
parts_times (pos n) k = (refl, sym (zero-mul k))
parts_times (negsuc n) k = ((parts_down (suc n * k)).0 ∙ sym (zero-mul k), (parts_down (suc n * k)).1)

down_times : (n m : ℕ) → neg_ℤ (pos n) *ℤ pos m ≡ neg_ℤ (pos (n * m))
down_times zero m = ap pos (zero-mul m) ∙ sym (ap (λ k. neg_ℤ (pos k)) (zero-mul m))
down_times (suc n) m = refl

pub times_times : (a : ℤ) (k m : ℕ) → (a *ℤ pos k) *ℤ pos m ≡ a *ℤ pos (k * m)
times_times (pos n) k m = ap pos (mul_assoc n k m)
times_times (negsuc n) k m = down_times (suc n * k) m ∙ ap (λ x. neg_ℤ (pos x)) (mul_assoc (suc n) k m)

pub times_swap : (a : ℤ) (k m : ℕ) → (a *ℤ pos k) *ℤ pos m ≡ (a *ℤ pos m) *ℤ pos k
times_swap a k m = times_times a k m ∙ ap (λ x. a *ℤ pos x) (mul_comm k m) ∙ sym (times_times a m k)

pub below_times : (a b : ℤ) (k : ℕ) → 0 < k → a <ℤ b → (a *ℤ pos k) <ℤ (b *ℤ pos k)
below_times a b k p h =
    let more : (up a + down b) * k < (up b + down a) * k = mul-lt-mul_of_pos_right (omega (arith, ints)) p in
    omega (arith, ints, parts_times a k, parts_times b k)

ranked_times : (a b : ℤ) (k : ℕ) (r : Ordering) → 0 < k → MatchOrdering r (a <ℤ b) (a ≡ b) (b <ℤ a) → MatchOrdering r ((a *ℤ pos k) <ℤ (b *ℤ pos k)) (a *ℤ pos k ≡ b *ℤ pos k) ((b *ℤ pos k) <ℤ (a *ℤ pos k))
ranked_times a b k Less p h = below_times a b k p h
ranked_times a b k Equal p h = ap (λ x. x *ℤ pos k) h
ranked_times a b k Greater p h = below_times b a k p h

-- the order of two numbers is that of so many times each
pub compared_times : (a b : ℤ) (k : ℕ) → 0 < k → int_cmp (a *ℤ pos k) (b *ℤ pos k) ≡ int_cmp a b
compared_times a b k p = sym (int_cmp_is (a *ℤ pos k) (b *ℤ pos k) (int_cmp a b) (ranked_times a b k (int_cmp a b) p (int_ranks a b)))

pub ten_positive : (k : ℕ) → 0 < 10 ^ k
ten_positive k = one-le-pow k 10 (omega arith)

-- fractions, crosswise: a / p to b / q is a * q to b * p
crossed : (a b c : ℤ) (p q r : ℕ) → int_cmp (a *ℤ pos q) (b *ℤ pos p) ≡ Less → int_cmp (b *ℤ pos r) (c *ℤ pos q) ≡ Less → 0 < p → 0 < q → 0 < r → int_cmp (a *ℤ pos r) (c *ℤ pos p) ≡ Less
crossed a b c p q r first second pos_p pos_q pos_r =
    let left : int_cmp ((a *ℤ pos q) *ℤ pos r) ((b *ℤ pos p) *ℤ pos r) ≡ Less = compared_times _ _ r pos_r ∙ first in
    let right : int_cmp ((b *ℤ pos r) *ℤ pos p) ((c *ℤ pos q) *ℤ pos p) ≡ Less = compared_times _ _ p pos_p ∙ second in
    let middle : int_cmp ((b *ℤ pos p) *ℤ pos r) ((c *ℤ pos q) *ℤ pos p) ≡ Less = ap (λ x. int_cmp x ((c *ℤ pos q) *ℤ pos p)) (times_swap b p r) ∙ right in
    let whole : int_cmp ((a *ℤ pos q) *ℤ pos r) ((c *ℤ pos q) *ℤ pos p) ≡ Less = int_cmp_total.trans ((a *ℤ pos q) *ℤ pos r) ((b *ℤ pos p) *ℤ pos r) ((c *ℤ pos q) *ℤ pos p) left middle in
    sym (compared_times (a *ℤ pos r) (c *ℤ pos p) q pos_q) ∙ ap (λ x. int_cmp x ((c *ℤ pos p) *ℤ pos q)) (times_swap a r q) ∙ ap (int_cmp ((a *ℤ pos q) *ℤ pos r)) (times_swap c p q) ∙ whole

level : (a b c : ℤ) (p q r : ℕ) → a *ℤ pos q ≡ b *ℤ pos p → 0 < p → 0 < q → int_cmp (a *ℤ pos r) (c *ℤ pos p) ≡ int_cmp (b *ℤ pos r) (c *ℤ pos q)
level a b c p q r same pos_p pos_q =
    sym (compared_times (a *ℤ pos r) (c *ℤ pos p) q pos_q)
    ∙ ap (λ x. int_cmp x ((c *ℤ pos p) *ℤ pos q)) (times_swap a r q ∙ ap (λ x. x *ℤ pos r) same ∙ times_swap b p r)
    ∙ ap (int_cmp ((b *ℤ pos r) *ℤ pos p)) (times_swap c p q)
    ∙ compared_times (b *ℤ pos r) (c *ℤ pos q) p pos_p

-- decimals are in a total order as the numbers that they are
pub number_cmp_total : IsTotalOrder number_cmp
number_cmp_total = record {
  antisymm = λ x y. int_cmp_total.antisymm (x.units *ℤ pos (10 ^ y.scale)) (y.units *ℤ pos (10 ^ x.scale));
  trans = λ x y z h k. crossed x.units y.units z.units (10 ^ x.scale) (10 ^ y.scale) (10 ^ z.scale) h k (ten_positive x.scale) (ten_positive y.scale) (ten_positive z.scale);
  congr = λ x y z h. level x.units y.units z.units (10 ^ x.scale) (10 ^ y.scale) (10 ^ z.scale) (int_ranked _ _ Equal (sym h)) (ten_positive x.scale) (ten_positive y.scale);
}
