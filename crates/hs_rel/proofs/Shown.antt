-- What shows rows is sorted, kept and found as the rows are.
use Rattle.std.proofs.Common.{◌≡◌, Bor, ℕ, ◌+◌, ◌<◌, ◌≤◌, Bool, true, false, not, cond, List, [], ◌∷◌, length, map, filter, get_or, take, nat_le, Result, Ok, Err, refl, sym, ap, subst, ◌∙◌, arith, inl, inr}
use denote.Param.Members.{Mut}
use Rattle.std.specs.declared.cmp.Ordering.{Ordering}
use Rattle.std.specs.declared.cmp.Ordering.TheVariants.{Less, Equal, Greater}
use Rattle.std.specs.Ordering.{on, is_lt, is_eq, eq_by_cmp, ordering_reverse}
use Rattle.std.specs.Fn.{Called, ComparesAs}
use Rattle.std.specs.declared.alloc.AllocError.{AllocError}
use Rattle.std.specs.Cmp.{IsStrictWeakOrder, IsTotalOrder, IsEquivalence, on_total, eq_by_cmp_equiv}
use Rattle.std.specs.List.{All, dedup, dedup_from, list_any, HoldsAt}
use Rattle.std.specs.List.Sorted.{IsSorted, IsSortedBy, IsSortedByClosure, IsStableByClosure, IsStable, IsPermutation, IsBinarySearchResult, IsSearchInRange}
use Rattle.std.specs.Result.{is_ok, OnOk}
use Rattle.std.proofs.lemmas.Fn.{always_returns_same}
use Rattle.std.proofs.lemmas.Result.{on_ok_weaker}
use Rattle.std.proofs.lemmas.Bool.{cases_Bool, leb-true, leb-false}
use Rattle.std.proofs.lemmas.List.{get_or-map, length-map}
use Rattle.std.proofs.lemmas.List.Elements.{All-map}
use Rattle.std.proofs.lemmas.List.Folds.{list_any_at, list_any_none}
use Rattle.std.proofs.lemmas.List.Sorted.{ranks_by, searchable_from_sorted, list_any-IsPermutation}
use Rattle.hs_values.specs.declared.value.Value.{Value}
use Rattle.hs_values.specs.Order.{row_order_of}
use Rattle.hs_values.specs.Sorted.{sorted_by, sorted_rows}
use Rattle.hs_values.specs.TotalOrder.{row_order_of_total}
use Rattle.hs_values.proofs.Stable.{sorted_by-only, sorted_by-IsSorted, sorted_by-IsPermutation, map-sorted_by}
use Rattle.hs_rel.specs.Bags.{same_row, is_among, is_wanted, first_of_each, distinct_rows}
use Rattle.hs_rel.specs.Groups.{key_order}
use Rattle.hs_rel.proofs.FirstOfEach.{dedup-sorted_by}

module _ {T X : Type 0} (shown : T → X) where
  pub shown_sorted : (cmp : X → X → Ordering) → IsTotalOrder cmp → (xs ys : List T) → IsSorted (on shown cmp) ys → IsStable (on shown cmp) xs ys → map shown ys ≡ sorted_by cmp (map shown xs)
  shown_sorted cmp o xs ys up stable =
      ap (map shown) (sorted_by-only (on shown cmp) (on_total shown o) xs ys up stable) ∙ map-sorted_by shown cmp xs

  -- a stable sort whose closure compares what is shown
  pub sorted_by_closure : (cmp : X → X → Ordering) → IsTotalOrder cmp → {F : Type 0} (g : Mut F (Bor T × (Bor T × Unit {0})) Ordering) (f : F) (result : Result (Unit {0}) AllocError) (xs ys : List T) → ((a : Bor T × (Bor T × Unit {0})) (r : Ordering) (f' : F) → Called g f a r f' → (is_lt r ≡ is_lt (cmp (shown a.0.now) (shown a.1.0.now))) × (f' ≡ f)) → OnOk result (IsSortedByClosure g f ys) → IsStableByClosure g f xs ys → OnOk result (map shown ys ≡ sorted_by cmp (map shown xs))
  sorted_by_closure cmp o g f result xs ys compares up stable =
      let lt : T → T → Bool = λ a b. is_lt (cmp (shown a) (shown b)) in
      let ranked : IsStrictWeakOrder lt = ranks_by o shown in
      let told : ComparesAs g lt f = always_returns_same g (λ a r. is_lt r ≡ lt a.0.now a.1.0.now) f compares in
      on_ok_weaker result (λ h. shown_sorted cmp o xs ys (h lt ranked told) (stable lt ranked told)) up

  pub shown_filtered : (p : X → Bool) (xs : List T) → map shown (filter (λ x. p (shown x)) xs) ≡ filter p (map shown xs)
  shown_filtered p [] = refl
  shown_filtered p (x ∷ xs) = by (p (shown x)) (shown_filtered p xs)
    where
      by : (b : Bool) → map shown (filter (λ y. p (shown y)) xs) ≡ filter p (map shown xs) → map shown (cond b (x ∷ filter (λ y. p (shown y)) xs) (filter (λ y. p (shown y)) xs)) ≡ cond b (shown x ∷ filter p (map shown xs)) (filter p (map shown xs))
      by true e = ap (λ l. shown x ∷ l) e
      by false e = e

  module _ (E : X → X → Bool) where
    abbrev as_shown : T → T → Bool
    as_shown a b = E (shown a) (shown b)

    deduped_from : (k : T) (xs : List T) → map shown (dedup_from as_shown k xs) ≡ dedup_from E (shown k) (map shown xs)
    deduped_from k [] = refl
    deduped_from k (x ∷ xs) = by (E (shown x) (shown k)) (deduped_from k xs) (deduped_from x xs)
      where
        by : (b : Bool) → map shown (dedup_from as_shown k xs) ≡ dedup_from E (shown k) (map shown xs) → map shown (dedup_from as_shown x xs) ≡ dedup_from E (shown x) (map shown xs) → map shown (cond b (dedup_from as_shown k xs) (k ∷ dedup_from as_shown x xs)) ≡ cond b (dedup_from E (shown k) (map shown xs)) (shown k ∷ dedup_from E (shown x) (map shown xs))
        by true same others = same
        by false same others = ap (λ l. shown k ∷ l) others

    pub shown_deduped : (xs : List T) → map shown (dedup as_shown xs) ≡ dedup E (map shown xs)
    shown_deduped [] = refl
    shown_deduped (x ∷ xs) = deduped_from x xs

  module _ (cmp : X → X → Ordering) (o : IsTotalOrder cmp) where
    unshown_sorted : (xs : List T) → IsSorted cmp (map shown xs) → IsSortedBy (λ a b. is_lt (cmp (shown a) (shown b))) xs
    unshown_sorted xs up k d low lt =
        let before : k < length xs = omega arith in
        let inside : k + 1 < length (map shown xs) = omega (arith, length-map xs shown) in
        let one = get_or-map shown xs k d (shown d) before in
        let next = get_or-map shown xs (k + 1) d (shown d) lt in
        sym (λ i. is_lt (cmp (next i) (one i))) ∙ up k (shown d) low inside

    equal_same : (y : T) (x : X) → cmp (shown y) x ≡ Equal → eq_by_cmp cmp x (shown y) ≡ true
    equal_same y x e = (eq_by_cmp_equiv o).symm x (shown y) ∙ ap is_eq e

    unlike : (y : T) (x : X) (r : Ordering) → is_eq r ≡ false → cmp (shown y) x ≡ r → eq_by_cmp cmp x (shown y) ≡ false
    unlike y x r other e = (eq_by_cmp_equiv o).symm x (shown y) ∙ ap is_eq e ∙ other

    -- a binary search finds what is there
    pub shown_searched : (xs : List T) (x : X) (r : Result ℕ ℕ) → IsSorted cmp (map shown xs) → IsSearchInRange r (length xs) → IsBinarySearchResult (λ y. cmp (shown y) x) xs r → is_ok r ≡ list_any (eq_by_cmp cmp x) (map shown xs)
    shown_searched [] x (Ok i) up within found = absurd (omega arith)
    shown_searched (y ∷ ys) x (Ok i) up within found =
        let xs : List T = y ∷ ys in
        let here : get_or (map shown xs) i x ≡ shown (get_or xs i y) = get_or-map shown xs i y x within in
        let inside : i < length (map shown xs) = omega (arith, length-map xs shown) in
        sym (list_any_at (eq_by_cmp cmp x) (map shown xs) i x inside (ap (eq_by_cmp cmp x) here ∙ equal_same (get_or xs i y) x (found y)))
    shown_searched xs x (Err i) up within found =
        let parted = found (searchable_from_sorted o shown xs x (unshown_sorted xs up)) in
        let none : All (λ y. eq_by_cmp cmp x (shown y) ≡ false) xs =
        λ k d lt.
        elim (cases_Bool (nat_le i k)) [
          | inl h ↦ unlike (get_or xs k d) x Greater refl (parted.1 k d (leb-true i k h) lt)
          | inr h ↦ unlike (get_or xs k d) x Less refl (parted.0 k d (omega arith) (leb-false i k h))
        ] in
        sym (list_any_none (eq_by_cmp cmp x) (map shown xs) (All-map (λ z. eq_by_cmp cmp x z ≡ false) shown xs none))

module _ {T : Type 0} (shown : T → List Value) where
  -- sorted, and then the first of equal ones
  pub shown_distinct : (xs ys zs : List T) → map shown ys ≡ sorted_rows (map shown xs) → zs ≡ dedup (λ a b. same_row (shown a) (shown b)) ys → map shown zs ≡ distinct_rows (map shown xs)
  shown_distinct xs ys zs in_order first =
      ap (map shown) first ∙ shown_deduped shown same_row ys ∙ ap (dedup same_row) in_order ∙ dedup-sorted_by row_order_of row_order_of_total (map shown xs)

-- a sorted list has the same rows
pub among_sorted : (rows : List (List Value)) (row : List Value) → is_among (sorted_rows rows) row ≡ is_among rows row
among_sorted rows row = sym (list_any-IsPermutation (same_row row) rows (sorted_rows rows) (sorted_by-IsPermutation row_order_of row_order_of_total rows))

pub wanted_sorted : (among : Bool) (rows sorted : List (List Value)) → sorted ≡ sorted_rows rows → (row : List Value) → is_wanted among sorted row ≡ is_wanted among rows row
wanted_sorted true rows sorted is row = ap (λ l. is_among l row) is ∙ among_sorted rows row
wanted_sorted false rows sorted is row = ap not (ap (λ l. is_among l row) is ∙ among_sorted rows row)

pub rows_sorted : (rows sorted : List (List Value)) → sorted ≡ sorted_rows rows → IsSorted row_order_of sorted
rows_sorted rows sorted is = subst (IsSorted row_order_of) (sym is) (sorted_by-IsSorted row_order_of row_order_of_total rows)

pub key_order_total : (keys : ℕ) → IsTotalOrder (key_order keys)
key_order_total keys = on_total (take keys) row_order_of_total
