-- Whole numbers of 64 bits.
use Rattle.std.proofs.Common.{◌≡◌, ◌^◌, ◌<◌, ◌≤◌, ℤ, pos, negsuc, FitsSigned, Ok, Err, arith}
use Rattle.std.specs.Int.{w64}
use Rattle.std.specs.Int.Signed.{mag}
use Rattle.std.proofs.lemmas.Bool.{cond-true, cond-false, le-ltb, lt-ltb}
use Rattle.hs_values.specs.declared.fault.EvalFault.TheVariants.{Range}
use Rattle.hs_expression.specs.Numbers.{in_64_bits}

-- what fits 64 bits is a whole number
pub narrow : (n : ℤ) → FitsSigned w64 n → in_64_bits n ≡ Ok n
unfolding in_64_bits
narrow (pos n) fits = cond-true _ _ _ (lt-ltb n (2 ^ 63) fits.sfits)
narrow (negsuc n) fits = cond-true _ _ _ (lt-ltb n (2 ^ 63) fits.sfits)

fits_from_mag : (n : ℤ) → mag n < 2 ^ 63 → FitsSigned w64 n
fits_from_mag n h = record { sfits = h }

far : (n : ℤ) → ¬ (FitsSigned w64 n) → 2 ^ 63 ≤ mag n
far n wide = grind (arith, fits_from_mag n)

-- what doesn't fit is out of range
pub too_wide : (n : ℤ) → ¬ (FitsSigned w64 n) → in_64_bits n ≡ Err Range
unfolding in_64_bits
too_wide (pos n) wide = cond-false _ _ _ (le-ltb n (2 ^ 63) (far (pos n) wide))
too_wide (negsuc n) wide = cond-false _ _ _ (le-ltb n (2 ^ 63) (far (negsuc n) wide))
