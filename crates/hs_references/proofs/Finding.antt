-- The first of a list that passes a test.
use Rattle.std.proofs.Common.{◌≡◌, ℕ, ◌+◌, ◌<◌, Bool, true, false, cond, List, ◌∷◌, length, drop, get_or, Some, sym, ap, ◌∙◌, add-one, drop-cons}
use Rattle.std.specs.List.{find}

module _ {X : Type 0} where
  pub found : (test : X → Bool) (x : X) (xs : List X) → test x ≡ true → find test (x ∷ xs) ≡ Some x
  found test x xs h = ap (λ b. cond b (Some x) (find test xs)) h

  pub passed : (test : X → Bool) (x : X) (xs : List X) → test x ≡ false → find test (x ∷ xs) ≡ find test xs
  passed test x xs h = ap (λ b. cond b (Some x) (find test xs)) h

-- the item of a list at a place, and those behind it
pub item : {X : Type 0} (xs : List X) (i : ℕ) (x : X) → i < length xs → x ≡ get_or xs i x → drop i xs ≡ x ∷ drop (i + 1) xs
item xs i x low is = drop-cons xs i x low ∙ (λ k. sym is k ∷ drop (sym (add-one i) k) xs)
