-- Two rows, column by column.
use Rattle.std.proofs.Common.{◌≡◌, ◌⊎◌, inl, inr, ℕ, ◌+◌, List, [], ◌∷◌, length, sym, arith}
use Rattle.std.specs.declared.cmp.Ordering.{Ordering}
use Rattle.std.specs.declared.cmp.Ordering.TheVariants.{Less, Equal, Greater}
use Rattle.std.specs.Ordering.{nat_cmp}
use Rattle.std.specs.Cmp.{nat_cmp_is}
use Rattle.std.specs.Cmp.Lexicographic.{slice_cmp}

module _ {X : Type 0} (cmp : X → X → Ordering) where
  -- where one of two lists ends, their lengths decide
  pub ended : (xs ys : List X) (m n : ℕ) → m + length ys ≡ n + length xs → (xs ≡ []) ⊎ (ys ≡ []) → nat_cmp m n ≡ slice_cmp cmp xs ys
  ended [] [] m n even at_end = sym (nat_cmp_is m n Equal (omega arith))
  ended [] (y ∷ ys) m n even at_end = sym (nat_cmp_is m n Less (omega arith))
  ended (x ∷ xs) [] m n even at_end = sym (nat_cmp_is m n Greater (omega arith))
  ended (x ∷ xs) (y ∷ ys) m n even (inl e) = cc
  ended (x ∷ xs) (y ∷ ys) m n even (inr e) = cc
