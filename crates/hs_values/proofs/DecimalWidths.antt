-- What 38 digits and 128 bits have to do with each other.
use Rattle.std.proofs.Common.{◌≡◌, ◌^◌, ◌<◌, ◌≤◌, ◌<ℤ◌, ℕ, ℤ, pos, negsuc, neg_ℤ, int_div, FitsSigned, Err, sym, ap, arith}
use Rattle.std.specs.Int.{w128}
use Rattle.std.specs.Prelude.{unsigned_abs}
use Rattle.std.proofs.lemmas.Int.{fits_signed_from_abs}
use Rattle.std.proofs.Math.Nat.{pow-le-pow_right, one-le-pow, div-eq_of_lt}
use Rattle.hs_values.specs.Decimal.{checked_of}
use Rattle.hs_values.specs.declared.fault.EvalFault.TheVariants.{Range}

-- what has at most 38 digits fits 128 bits
pub narrow : (z : ℤ) → unsigned_abs z < 10 ^ 38 → FitsSigned w128 z
narrow z few = fits_signed_from_abs w128 z (omega arith)

-- what does not fit 128 bits has more than 38 digits
pub too_wide : (z : ℤ) (scale : ℕ) → ¬ (FitsSigned w128 z) → Err Range ≡ checked_of z scale
unfolding checked_of
too_wide z scale wide = grind (arith, narrow z)

-- a scale above 38 is outside the range
pub above : (z : ℤ) (scale : ℕ) → 38 < scale → Err Range ≡ checked_of z scale
unfolding checked_of
above z scale high = grind arith

pub ten_fits : (k : ℕ) → k ≤ 38 → FitsSigned w128 (pos (10 ^ k))
ten_fits k few =
    let most : 10 ^ k ≤ 10 ^ 38 = pow-le-pow_right {n = 10} (omega arith) few in
    fits_signed_from_abs w128 (pos (10 ^ k)) (omega arith)

pub ten_positive : (k : ℕ) → pos 0 <ℤ pos (10 ^ k)
ten_positive k = let least : 1 ≤ 10 ^ k = one-le-pow k 10 (omega arith) in grind (arith, least)

size_of_fitting : (z : ℤ) → FitsSigned w128 z → unsigned_abs z ≤ 2 ^ 127
size_of_fitting (pos n) fits = omega (arith, fits.sfits)
size_of_fitting (negsuc n) fits = omega (arith, fits.sfits)

-- no number of 128 bits has more than 39 digits
pub all_cut : (z : ℤ) (k : ℕ) → FitsSigned w128 z → 38 < k → pos 0 ≡ int_div z (pos (10 ^ k))
all_cut z k fits many =
    let more : 10 ^ 39 ≤ 10 ^ k = pow-le-pow_right {n = 10} (omega arith) {i = 39} many in
    by z (10 ^ k) (size_of_fitting z fits) more
  where
    by : (y : ℤ) (d : ℕ) → unsigned_abs y ≤ 2 ^ 127 → 10 ^ 39 ≤ d → pos 0 ≡ int_div y (pos d)
    by (pos n) d few more = ap pos (sym (div-eq_of_lt (omega arith)))
    by (negsuc n) d few more = ap (λ m. neg_ℤ (pos m)) (sym (div-eq_of_lt (omega arith)))
