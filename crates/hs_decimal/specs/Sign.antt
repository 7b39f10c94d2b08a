-- The sign of a number, apart from its size.
use Rattle.std.specs.Prelude.{ℕ, negsuc, ℤ, pos, neg_ℤ, Bool, true, false}

abbrev pub is_below_zero : ℤ → Bool
is_below_zero (pos n) = false
is_below_zero (negsuc n) = true

-- the product or quotient of two numbers of which these are below zero, from its size
abbrev pub with_signs : Bool → Bool → ℕ → ℤ
with_signs false false n = pos n
with_signs false true n = neg_ℤ (pos n)
with_signs true false n = neg_ℤ (pos n)
with_signs true true n = pos n
