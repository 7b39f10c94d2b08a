-- A list from which items are taken one by one, from its end on.
use Rattle.std.proofs.Common.{◌≡◌, ℕ, zero, suc, ◌<◌, Bool, true, false, cond, filter, List, [], ◌∷◌, ◌++◌, None, Some, take, drop, length, slice_get, sym, ap, ◌∙◌, arith}
use Rattle.std.specs.List.{remove}

module _ {A : Type 0} (keep : A → Bool) where
  -- what is left when the items from n on were looked at
  abbrev pub left : List A → ℕ → List A
  left xs n = take n xs ++ filter keep (drop n xs)

  pub gone : (xs : List A) (n : ℕ) (x : A) → n < length xs → slice_get (left xs (suc n)) n ≡ Some x → keep x ≡ false → remove (left xs (suc n)) n ≡ left xs n
  gone [] n x lt at k = absurd (omega arith)
  gone (y ∷ ys) zero x lt at k =
      let same : y ≡ x = cc in
      sym (ap (λ b. cond b (y ∷ filter keep ys) (filter keep ys)) (ap keep same ∙ k))
  gone (y ∷ ys) (suc n) x lt at k = ap (λ zs. y ∷ zs) (gone ys n x (omega arith) at k)

  pub kept : (xs : List A) (n : ℕ) (x : A) → n < length xs → slice_get (left xs (suc n)) n ≡ Some x → keep x ≡ true → left xs (suc n) ≡ left xs n
  kept [] n x lt at k = absurd (omega arith)
  kept (y ∷ ys) zero x lt at k =
      let same : y ≡ x = cc in
      sym (ap (λ b. cond b (y ∷ filter keep ys) (filter keep ys)) (ap keep same ∙ k))
  kept (y ∷ ys) (suc n) x lt at k = ap (λ zs. y ∷ zs) (kept ys n x (omega arith) at k)

  pub there : (xs : List A) (n : ℕ) → n < length xs → slice_get (left xs (suc n)) n ≡ None → ⊥
  there [] n lt at = absurd (omega arith)
  there (y ∷ ys) zero lt at = cc
  there (y ∷ ys) (suc n) lt at = there ys n (omega arith) at
