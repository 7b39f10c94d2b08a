-- The sign of a quotient, apart from its size.
use Rattle.std.proofs.Common.{◌≡◌, ℕ, zero, suc, ◌*◌, ◌/◌, Bool, true, false, ℤ, pos, negsuc, neg_ℤ, ◌*ℤ◌, refl, sym, ap, ◌∙◌}
use Rattle.std.specs.Prelude.{unsigned_abs, int_div}
use Rattle.std.proofs.Math.Nat.{zero-div}
use Rattle.hs_decimal.specs.Sign.{with_signs, is_below_zero}

down_by : (m b : ℕ) → int_div (neg_ℤ (pos m)) (pos b) ≡ neg_ℤ (pos (m / b))
down_by zero b = ap pos (zero-div b) ∙ sym (ap (λ n. neg_ℤ (pos n)) (zero-div b))
down_by (suc m) b = refl

down_down : (m b : ℕ) → int_div (neg_ℤ (pos m)) (negsuc b) ≡ pos (m / suc b)
down_down zero b = ap (λ n. neg_ℤ (pos n)) (zero-div (suc b)) ∙ sym (ap pos (zero-div (suc b)))
down_down (suc m) b = refl

by_size : (a b : ℤ) (k : ℕ) → int_div (a *ℤ pos k) b ≡ with_signs (is_below_zero a) (is_below_zero b) (unsigned_abs a * k / unsigned_abs b)
by_size (pos a) (pos b) k = refl
by_size (pos a) (negsuc b) k = refl
by_size (negsuc a) (pos b) k = down_by (suc a * k) b
by_size (negsuc a) (negsuc b) k = down_down (suc a * k) b

-- a number or what is below zero by as much
size_down : (n : ℕ) → unsigned_abs (neg_ℤ (pos n)) ≡ n
size_down zero = refl
size_down (suc n) = refl

size_of : (s t : Bool) (n : ℕ) → unsigned_abs (with_signs s t n) ≡ n
size_of false false n = refl
size_of false true n = size_down n
size_of true false n = size_down n
size_of true true n = refl

pub by_size_back : (a b : ℤ) (k n : ℕ) → n ≡ unsigned_abs a * k / unsigned_abs b → with_signs (is_below_zero a) (is_below_zero b) n ≡ int_div (a *ℤ pos k) b
by_size_back a b k n e = ap (with_signs (is_below_zero a) (is_below_zero b)) e ∙ sym (by_size a b k)

pub size_of_quotient : (a b : ℤ) (k : ℕ) → unsigned_abs (int_div (a *ℤ pos k) b) ≡ unsigned_abs a * k / unsigned_abs b
size_of_quotient a b k = ap unsigned_abs (by_size a b k) ∙ size_of _ _ _
