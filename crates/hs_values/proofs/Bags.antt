-- The same elements in another order are the same when sorted.
use Rattle.std.proofs.Common.{◌≡◌, Bool, true, false, List, [], ◌∷◌, length, filter, refl, sym, subst, ◌∙◌, arith, inl, inr}
use Rattle.std.proofs.lemmas.Bool.{cases_Bool, true≢false}
use Rattle.std.proofs.lemmas.List.Elements.{All-contains_itself, recursion_from_All}
use Rattle.std.proofs.lemmas.List.Sorted.{All-permutation, sum_by-IsPermutation}
use Rattle.std.proofs.lemmas.List.Sums.{length-filter}
use Rattle.std.specs.declared.cmp.Ordering.{Ordering}
use Rattle.std.specs.declared.cmp.Ordering.TheVariants.{Less, Equal, Greater}
use Rattle.std.specs.Ordering.{is_lt, ordering_reverse}
use Rattle.std.specs.Cmp.{IsTotalOrder}
use Rattle.std.specs.List.{AllByRecursion, Contains}
use Rattle.std.specs.List.Sorted.{ties, IsPermutation}
use Rattle.hs_values.specs.Sorted.{sorted_by}
use Rattle.hs_values.proofs.Stable.{kept, dropped, lt, ranked, tied, sorted_by-IsSorted, sorted_by-IsStable, sorted_by-only}

module _ {X : Type 0} where
  -- two lists of one length, where each element of one is each of the other
  alike : (P Q : X → Type 0) → ((x y : X) → P x → Q y → x ≡ y) → (xs ys : List X) → length xs ≡ length ys → AllByRecursion P xs → AllByRecursion Q ys → xs ≡ ys
  alike P Q same [] [] long h k = refl
  alike P Q same [] (y ∷ ys) long h k = absurd (omega arith)
  alike P Q same (x ∷ xs) [] long h k = absurd (omega arith)
  alike P Q same (x ∷ xs) (y ∷ ys) long h k =
      let rest : xs ≡ ys = alike P Q same xs ys (omega arith) h.1 k.1 in λ i. same x y h.0 k.0 i ∷ rest i

  filter_has : (p : X → Bool) (P : X → Type 0) (xs : List X) → AllByRecursion P xs → AllByRecursion (λ x. P x × (p x ≡ true)) (filter p xs)
  filter_has p P [] h = tt
  filter_has p P (x ∷ xs) h =
      elim (cases_Bool (p x)) [
        | inl with ↦ subst (AllByRecursion (λ y. P y × (p y ≡ true))) (sym (kept p x xs with)) ((h.0, with), filter_has p P xs h.1)
        | inr without ↦ subst (AllByRecursion (λ y. P y × (p y ≡ true))) (sym (dropped p x xs without)) (filter_has p P xs h.1)
      ]

  length-filter_permuted : (p : X → Bool) (xs ys : List X) → IsPermutation xs ys → length (filter p xs) ≡ length (filter p ys)
  length-filter_permuted p xs ys h = length-filter p xs ∙ sym (sum_by-IsPermutation _ xs ys h) ∙ sym (length-filter p ys)

level : (r s : Ordering) → r ≡ ordering_reverse s → is_lt r ≡ false → is_lt s ≡ false → r ≡ Equal
level Less s e h k = absurd (true≢false h)
level Equal s e h k = refl
level Greater Less e h k = absurd (true≢false k)
level Greater Equal e h k = cc
level Greater Greater e h k = cc

module _ {X : Type 0} (cmp : X → X → Ordering) (o : IsTotalOrder cmp) where
  ties_Equal : (x y : X) → ties (lt cmp o) x y ≡ true → cmp x y ≡ Equal
  ties_Equal x y h = let both = tied (lt cmp o) (ranked cmp o) x y h in level (cmp x y) (cmp y x) (o.antisymm x y) both.0 both.1

  same_ties : (xs ys : List X) → IsPermutation xs ys → ((a b : X) → Contains xs a → Contains xs b → cmp a b ≡ Equal → a ≡ b) → (z : X) → filter (ties (lt cmp o) z) xs ≡ filter (ties (lt cmp o) z) ys
  same_ties xs ys permuted telling z =
      let p = ties (lt cmp o) z in
      let P : X → Type 0 = λ x. Contains xs x × (p x ≡ true) in
      alike P P
      (λ a b h k. telling a b h.0 k.0 (sym (o.congr z a b (ties_Equal z a h.1)) ∙ ties_Equal z b k.1))
      (filter p xs) (filter p ys) (length-filter_permuted p xs ys permuted)
      (filter_has p (Contains xs) xs (recursion_from_All (Contains xs) xs (All-contains_itself xs)))
      (filter_has p (Contains xs) ys (recursion_from_All (Contains xs) ys (All-permutation (Contains xs) xs ys permuted (All-contains_itself xs))))

  -- where elements that tie are identical, a bag has one order
  pub sorted_by-permuted : (xs ys : List X) → IsPermutation xs ys → ((a b : X) → Contains xs a → Contains xs b → cmp a b ≡ Equal → a ≡ b) → sorted_by cmp xs ≡ sorted_by cmp ys
  sorted_by-permuted xs ys permuted telling =
      sorted_by-only cmp o ys (sorted_by cmp xs) (sorted_by-IsSorted cmp o xs) (λ z. sorted_by-IsStable cmp o xs z ∙ same_ties xs ys permuted telling z)
