-- The place of the first that passes a test, and lists without it.
use Rattle.std.proofs.Common.{◌≡◌, ℕ, zero, suc, ◌+◌, ◌<◌, Bool, true, false, cond, List, [], ◌∷◌, ◌++◌, length, get_or, Some, None, refl, sym, ap, ◌∙◌, arith}
use Rattle.std.specs.Prelude.{position}
use Rattle.std.specs.List.{remove, position_from}
use Rattle.std.specs.Set.{remove_key}
use Rattle.std.proofs.lemmas.Iterator.Adapters.{position_from-zero}
use Rattle.std.proofs.lemmas.List.Quantifiers.{position-Some}

module _ {X : Type 0} (test : X → Bool) (y : X) where
  -- one that is put behind, where the first that passes goes
  removed_at : (xs : List X) (place : ℕ) → place < length xs → test (get_or xs place y) ≡ true → ((k : ℕ) → k < place → test (get_or xs k y) ≡ false) → remove (xs ++ y ∷ []) place ≡ remove_key test xs ++ y ∷ []
  removed_at [] place lt here before = absurd (omega (arith, lt))
  removed_at (x ∷ xs) zero lt here before = ap (λ b. cond b xs (x ∷ remove_key test xs) ++ y ∷ []) (sym here)
  removed_at (x ∷ xs) (suc place) lt here before =
      let other : test x ≡ false = before zero (omega arith) in
      ap (λ (rest : List X). x ∷ rest) (removed_at xs place (omega (arith, lt)) here (λ k l. before (suc k) (omega (arith, l))))
      ∙ ap (λ b. cond b xs (x ∷ remove_key test xs) ++ y ∷ []) (sym other)

  pub removed : (xs : List X) (place : ℕ) → position test xs ≡ Some place → remove (xs ++ y ∷ []) place ≡ remove_key test xs ++ y ∷ []
  removed xs place at = let is = position-Some test xs place y at in removed_at xs place is.0 is.1 is.2

  none_by : (n : ℕ) (x : X) (xs : List X) (b : Bool) → (position_from test (n + 1) xs ≡ None → remove_key test xs ≡ xs) → cond b (Some n) (position_from test (n + 1) xs) ≡ None → cond b xs (x ∷ remove_key test xs) ≡ x ∷ xs
  none_by n x xs true rest at = absurd cc
  none_by n x xs false rest at = ap (λ (all : List X). x ∷ all) (rest at)

  none_from : (n : ℕ) (xs : List X) → position_from test n xs ≡ None → remove_key test xs ≡ xs
  none_from n [] at = refl
  none_from n (x ∷ xs) at = none_by n x xs (test x) (none_from (n + 1) xs) at

  -- where none passes
  pub none_gone : (xs : List X) → position test xs ≡ None → xs ++ y ∷ [] ≡ remove_key test xs ++ y ∷ []
  none_gone xs at = ap (λ (rest : List X). rest ++ y ∷ []) (sym (none_from 0 xs (sym (position_from-zero test xs) ∙ at)))
