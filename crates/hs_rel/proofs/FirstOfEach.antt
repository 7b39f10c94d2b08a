-- Of elements that tie the first, in a list and in its order.
use Rattle.std.proofs.Common.{◌≡◌, ℕ, zero, suc, ◌+◌, ◌<◌, ◌≤◌, Bool, true, false, not, ◌&&◌, cond, List, [], ◌∷◌, length, get_or, take, filter, refl, sym, ap, subst, ◌∙◌, arith, inl, inr, suc-le-suc, zero-le, add-one}
use Rattle.std.proofs.lemmas.Bool.{cond-true, cond-false, cases_Bool, true≢false}
use Rattle.std.proofs.lemmas.List.Elements.{filter_agree}
use Rattle.std.proofs.lemmas.List.Kept.{IsStrictlySortedBy-dedup}
use Rattle.std.proofs.lemmas.List.Sorted.{sorted_far, ranks_by}
use Rattle.std.specs.declared.cmp.Ordering.{Ordering}
use Rattle.std.specs.declared.cmp.Ordering.TheVariants.{Less, Equal, Greater}
use Rattle.std.specs.Ordering.{is_lt, is_eq, ordering_reverse, eq_by_cmp}
use Rattle.std.specs.Cmp.{IsTotalOrder, IsEquivalence, eq_by_cmp_equiv}
use Rattle.std.specs.List.{AllByRecursion, dedup, dedup_from}
use Rattle.std.specs.List.Sorted.{ties, IsSorted, IsStable, IsStrictlySortedBy}
use Rattle.hs_values.specs.Sorted.{sorted_by}
use Rattle.hs_values.proofs.Stable.{kept, dropped, sorted_by-IsSorted, sorted_by-IsStable, sorted_by-only}
use Rattle.hs_rel.specs.Bags.{first_of_each}

module _ {X : Type 0} where
  keeps_alike : (x : X) (b : Bool) (ys zs : List X) → ys ≡ zs → cond b (x ∷ ys) ys ≡ cond b (x ∷ zs) zs
  keeps_alike x b ys zs e = ap (λ l. cond b (x ∷ l) l) e

  -- what passes p passes q: it is kept by q
  pub filter_within : (p q : X → Bool) → ((x : X) → p x ≡ true → q x ≡ true) → (xs : List X) → filter p (filter q xs) ≡ filter p xs
  filter_within p q both [] = refl
  filter_within p q both (x ∷ xs) =
      elim (cases_Bool (q x)) [
        | inl with ↦ ap (filter p) (kept q x xs with) ∙ keeps_alike x (p x) _ _ (filter_within p q both xs)
        | inr without ↦
            let fails : p x ≡ false = elim (cases_Bool (p x)) [ inl h ↦ absurd (true≢false (sym (both x h) ∙ without)) | inr h ↦ h ] in
            ap (filter p) (dropped q x xs without) ∙ filter_within p q both xs ∙ sym (dropped p x xs fails)
      ]

  -- what passes p fails q: none is left
  pub filter_without : (p q : X → Bool) → ((x : X) → p x ≡ true → q x ≡ false) → (xs : List X) → filter p (filter q xs) ≡ []
  filter_without p q never [] = refl
  filter_without p q never (x ∷ xs) =
      elim (cases_Bool (q x)) [
        | inl with ↦
            let fails : p x ≡ false = elim (cases_Bool (p x)) [ inl h ↦ absurd (true≢false (sym with ∙ never x h)) | inr h ↦ h ] in
            ap (filter p) (kept q x xs with) ∙ dropped p x (filter q xs) fails ∙ filter_without p q never xs
        | inr without ↦ ap (filter p) (dropped q x xs without) ∙ filter_without p q never xs
      ]

  pub filter_whole : (p : X → Bool) (xs : List X) → AllByRecursion (λ x. p x ≡ true) xs → filter p xs ≡ xs
  filter_whole p [] h = refl
  filter_whole p (x ∷ xs) h = kept p x xs h.0 ∙ ap (λ l. x ∷ l) (filter_whole p xs h.1)

  all_filtered : (p : X → Bool) (P : X → Type 0) (xs : List X) → AllByRecursion P xs → AllByRecursion P (filter p xs)
  all_filtered p P [] h = tt
  all_filtered p P (x ∷ xs) h =
      elim (cases_Bool (p x)) [
        | inl with ↦ subst (AllByRecursion P) (sym (kept p x xs with)) (h.0, all_filtered p P xs h.1)
        | inr without ↦ subst (AllByRecursion P) (sym (dropped p x xs without)) (all_filtered p P xs h.1)
      ]

  pub all_weaker : (P Q : X → Type 0) → ((x : X) → P x → Q x) → (xs : List X) → AllByRecursion P xs → AllByRecursion Q xs
  all_weaker P Q weaker [] h = tt
  all_weaker P Q weaker (x ∷ xs) h = (weaker x h.0, all_weaker P Q weaker xs h.1)

not_true : (b : Bool) → b ≡ true → not b ≡ false
not_true b h = ap not h

not_false : (b : Bool) → b ≡ false → not b ≡ true
not_false b h = ap not h

module _ {X : Type 0} (E : X → X → Bool) (e : IsEquivalence E) where
  abbrev differs : X → X → Bool
  differs x y = not (E x y)

  -- of the elements that are the same as z the first is kept
  pub filter-first_of_each : (z : X) (xs : List X) → filter (E z) (first_of_each E xs) ≡ take 1 (filter (E z) xs)
  filter-first_of_each z [] = refl
  filter-first_of_each z (x ∷ xs) =
      let rest = first_of_each E xs in
      elim (cases_Bool (E z x)) [
        | inl with ↦
            kept (E z) x (filter (differs x) rest) with
            ∙ ap (λ l. x ∷ l) (filter_without (E z) (differs x) (λ y h. not_true (E x y) (sym (e.congr z x y with) ∙ h)) rest)
            ∙ ap (take 1) (sym (kept (E z) x xs with))
        | inr without ↦
            dropped (E z) x (filter (differs x) rest) without
            ∙ filter_within (E z) (differs x) (λ y h. not_false (E x y) (apart z x y h without)) rest
            ∙ filter-first_of_each z xs
            ∙ ap (take 1) (sym (dropped (E z) x xs without))
      ]
    where
      apart : (z x y : X) → E z y ≡ true → E z x ≡ false → E x y ≡ false
      apart z x y h without = e.symm x y ∙ sym (e.congr z y x h) ∙ without

  -- each element that is kept is one of the list's
  pub all-first_of_each : (P : X → Type 0) (xs : List X) → AllByRecursion P xs → AllByRecursion P (first_of_each E xs)
  all-first_of_each P [] h = tt
  all-first_of_each P (x ∷ xs) h = (h.0, all_filtered (differs x) P (first_of_each E xs) (all-first_of_each P xs h.1))

module _ {X : Type 0} (cmp : X → X → Ordering) (o : IsTotalOrder cmp) where
  abbrev pub same : X → X → Bool
  same = eq_by_cmp cmp

  equivalence : IsEquivalence same
  equivalence = eq_by_cmp_equiv o

  abbrev pub below : X → X → Bool
  below x y = is_lt (cmp x y)

  -- none of ys is below x, and so on in ys
  abbrev pub Rises : List X → Type 0
  Rises [] = Unit {0}
  Rises (y ∷ ys) = AllByRecursion (λ x. below x y ≡ false) ys × Rises ys

  least_at : (x : X) (ys : List X) → ((j : ℕ) → j < length ys → below (get_or ys j x) x ≡ false) → AllByRecursion (λ y. below y x ≡ false) ys
  least_at x [] h = tt
  least_at x (y ∷ ys) h = (h zero (suc-le-suc zero-le), least_at x ys (λ j lt. h (suc j) (suc-le-suc lt)))

  rises_from : (ys : List X) → ((i j : ℕ) (d : X) → i ≤ j → j < length ys → below (get_or ys j d) (get_or ys i d) ≡ false) → Rises ys
  rises_from [] h = tt
  rises_from (y ∷ ys) h = (
    least_at y ys (λ j lt. h zero (suc j) y zero-le (suc-le-suc lt)),
    rises_from ys (λ i j d le lt. h (suc i) (suc j) d (suc-le-suc le) (suc-le-suc lt)),
  )

  pub rises_sorted : (ys : List X) → IsSorted cmp ys → Rises ys
  rises_sorted ys up = rises_from ys (sorted_far below (ranks_by o (λ x. x)) ys up)

  -- what isn't below k and doesn't tie with it is above it
  pub above_from : (k y : X) → below y k ≡ false → same y k ≡ false → cmp k y ≡ Less
  above_from k y not_below not_same = by (cmp y k) refl
    where
      by : (r : Ordering) → cmp y k ≡ r → cmp k y ≡ Less
      by Less is = absurd (true≢false (sym (ap is_lt is) ∙ not_below))
      by Equal is = absurd (true≢false (sym (ap is_eq is) ∙ not_same))
      by Greater is = o.antisymm k y ∙ ap ordering_reverse is

  above_more : (k y x : X) → cmp k y ≡ Less → below x y ≡ false → not (same k x) ≡ true
  above_more k y x up not_below = by (cmp y x) refl
    where
      less : (r : Ordering) → r ≡ Less → not (is_eq r) ≡ true
      less r h = ap (λ s. not (is_eq s)) h

      by : (r : Ordering) → cmp y x ≡ r → not (same k x) ≡ true
      by Less is = less (cmp k x) (o.trans k y x up is)
      by Equal is = less (cmp k x) (o.antisymm k x ∙ ap ordering_reverse (sym (o.congr y x k is)) ∙ sym (o.antisymm k y) ∙ up)
      by Greater is = absurd (true≢false (sym (ap is_lt (o.antisymm x y ∙ ap ordering_reverse is)) ∙ not_below))

  -- on a list in order `dedup` keeps the first of each
  deduped_from : (k : X) (ys : List X) → Rises (k ∷ ys) → dedup_from same k ys ≡ k ∷ filter (λ y. not (same k y)) (first_of_each same ys)
  deduped_from k [] h = refl
  deduped_from k (y ∷ ys) h =
      let rest = first_of_each same ys in
      let differs_k : X → Bool = λ x. not (same k x) in
      let differs_y : X → Bool = λ x. not (same y x) in
      elim (cases_Bool (same y k)) [
        | inl with ↦
            cond-true _ _ _ with
            ∙ deduped_from k ys (h.0.1, h.1.1)
            ∙ ap (λ l. k ∷ l)
            (sym (filter_within differs_k differs_y (λ x p. ap not (equivalence.congr y k x with) ∙ p) rest)
            ∙ sym (dropped differs_k y (filter differs_y rest) (ap not (equivalence.symm k y ∙ with))))
        | inr without ↦
            let up = above_from k y h.0.0 without in
            cond-false _ _ _ without
            ∙ ap (λ l. k ∷ l)
            (deduped_from y ys h.1
            ∙ ap (λ l. y ∷ l)
            (sym (filter_whole differs_k (filter differs_y rest) (all_filtered differs_y _ rest (all-first_of_each same equivalence _ ys (all_weaker _ _ (λ x not_below. above_more k y x up not_below) ys h.1.0)))))
            ∙ sym (kept differs_k y (filter differs_y rest) (ap not (equivalence.symm k y ∙ without))))
      ]

  deduped : (ys : List X) → Rises ys → dedup same ys ≡ first_of_each same ys
  deduped [] h = refl
  deduped (y ∷ ys) h = deduped_from y ys h

  -- ties of the order are elements that are the same
  ties_same : (z x : X) → ties below z x ≡ same z x
  ties_same z x = by (cmp z x) (cmp x z) (o.antisymm x z)
    where
      by : (r s : Ordering) → s ≡ ordering_reverse r → not (is_lt r) && not (is_lt s) ≡ is_eq r
      by Less s h = refl
      by Equal s h = ap (λ t. true && not (is_lt t)) h
      by Greater s h = ap (λ t. true && not (is_lt t)) h

  strictly : (ks : List X) → IsStrictlySortedBy cmp ks → IsSorted cmp ks
  unfolding IsStrictlySortedBy
  strictly ks h k d low lt = next ks k d h lt
    where
      up : (x y : X) → cmp x y ≡ Less → below y x ≡ false
      up x y less = ap is_lt (o.antisymm y x ∙ ap ordering_reverse less)

      next : (zs : List X) (k : ℕ) (d : X) → IsStrictlySortedBy cmp zs → k + 1 < length zs → below (get_or zs (k + 1) d) (get_or zs k d) ≡ false
      next [] k d h lt = absurd (omega arith)
      next (y ∷ []) k d h lt = absurd (omega arith)
      next (y ∷ z ∷ zs) zero d h lt = up y z h.0.0
      next (y ∷ z ∷ zs) (suc k) d h lt = rw add-one (rw add-one at (next (z ∷ zs) k d h.1 (omega arith)))

  -- what `dedup` leaves of a list in order is the first of each, in order
  pub dedup-sorted_by : (xs : List X) → dedup same (sorted_by cmp xs) ≡ sorted_by cmp (first_of_each same xs)
  dedup-sorted_by xs =
      let ys = sorted_by cmp xs in
      let up : IsSorted cmp ys = sorted_by-IsSorted cmp o xs in
      let strict : IsStrictlySortedBy cmp (dedup same ys) = IsStrictlySortedBy-dedup o (λ x y. refl) ys up in
      let stable : IsStable cmp (first_of_each same xs) (dedup same ys) =
      λ z.
      let first = filter-first_of_each same equivalence z in
      filter_agree _ _ (ties_same z) (dedup same ys)
      ∙ ap (filter (same z)) (deduped ys (rises_sorted ys up))
      ∙ first ys
      ∙ ap (take 1) (sym (filter_agree _ _ (ties_same z) ys) ∙ sorted_by-IsStable cmp o xs z ∙ filter_agree _ _ (ties_same z) xs)
      ∙ sym (first xs)
      ∙ sym (filter_agree _ _ (ties_same z) (first_of_each same xs)) in
      sorted_by-only cmp o (first_of_each same xs) (dedup same ys) (strictly (dedup same ys) strict) stable
