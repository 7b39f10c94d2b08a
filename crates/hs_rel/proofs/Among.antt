-- Which rows are among distinct rows, unions, intersections and differences.
use Rattle.std.proofs.Common.{◌≡◌, ℕ, Bool, true, false, not, ◌&&◌, cond, List, [], ◌∷◌, ◌++◌, filter, refl, sym, ap, subst, ◌∙◌, inl, inr}
use Rattle.std.specs.Prelude.{◌||◌}
use Rattle.std.specs.List.{All, Contains, list_any, dedup}
use Rattle.std.specs.List.Sorted.{IsPermutation, IsStrictlySortedBy}
use Rattle.std.specs.Ordering.{eq_by_cmp}
use Rattle.std.specs.Cmp.{IsEquivalence, eq_by_cmp_equiv}
use Rattle.std.proofs.lemmas.Bool.{cases_Bool}
use Rattle.std.proofs.lemmas.List.Elements.{All-contains, All-contains_itself, All-from_recursion, recursion_from_All}
use Rattle.std.proofs.lemmas.List.Folds.{list_any-append}
use Rattle.std.proofs.lemmas.List.Kept.{IsStrictlySortedBy-dedup, IsStrictlySortedBy-filter}
use Rattle.std.proofs.lemmas.List.Sorted.{IsPermutation-sym, Contains-permutation}
use Rattle.std.proofs.lemmas.Map.Steps.{list_any_congr}
use Rattle.std.proofs.lemmas.Map.Views.{any-filter_same}
use Rattle.hs_values.specs.declared.value.Value.{Value}
use Rattle.hs_values.specs.Order.{row_order_of}
use Rattle.hs_values.specs.Sorted.{sorted_rows}
use Rattle.hs_values.specs.TotalOrder.{row_order_of_total}
use Rattle.hs_values.proofs.Stable.{sorted_by-IsSorted, sorted_by-IsPermutation}
use Rattle.hs_rel.specs.Bags.{same_row, is_among, first_of_each, distinct_rows, united, intersected, excepted}
use Rattle.hs_rel.proofs.FirstOfEach.{all-first_of_each, dedup-sorted_by}
use Rattle.hs_rel.proofs.Shown.{among_sorted}

same : IsEquivalence same_row
same = eq_by_cmp_equiv row_order_of_total

first_among : (rows : List (List Value)) (row : List Value) → is_among (first_of_each same_row rows) row ≡ is_among rows row
first_among [] row = refl
first_among (one ∷ rows) row = by (same_row row one) refl (first_among rows row)
  where
    rest : List (List Value)
    rest = first_of_each same_row rows

    by : (b : Bool) → same_row row one ≡ b → is_among rest row ≡ is_among rows row → (same_row row one || is_among (filter (λ other. not (same_row one other)) rest) row) ≡ (same_row row one || is_among rows row)
    by true is more = ap (λ b. b || is_among (filter (λ other. not (same_row one other)) rest) row) is ∙ sym (ap (λ b. b || is_among rows row) is)
    by false is more =
        ap (λ b. same_row row one || b)
        (any-filter_same (same_row row) (λ other. not (same_row one other)) true (λ other alike. ap not (apart other alike)) rest ∙ more)
      where
        apart : (other : List Value) → same_row row other ≡ true → same_row one other ≡ false
        apart other alike = same.symm one other ∙ sym (same.congr row other one alike) ∙ is

pub distinct_among : (rows : List (List Value)) (row : List Value) → is_among (distinct_rows rows) row ≡ is_among rows row
distinct_among rows row = among_sorted (first_of_each same_row rows) row ∙ first_among rows row

pub distinct_strict : (rows : List (List Value)) → IsStrictlySortedBy row_order_of (distinct_rows rows)
distinct_strict rows =
    subst (IsStrictlySortedBy row_order_of) (dedup-sorted_by row_order_of row_order_of_total rows)
    (IsStrictlySortedBy-dedup row_order_of_total (λ a b. refl) (sorted_rows rows) (sorted_by-IsSorted row_order_of row_order_of_total rows))

pub distinct_found : (rows : List (List Value)) (row : List Value) → Contains (distinct_rows rows) row → Contains rows row
distinct_found rows row h =
    let firsts = first_of_each same_row rows in
    let moved = IsPermutation-sym firsts (sorted_rows firsts) (sorted_by-IsPermutation row_order_of row_order_of_total firsts) in
    All-contains (Contains rows) firsts row
    (All-from_recursion (Contains rows) firsts (all-first_of_each same_row same (Contains rows) rows (recursion_from_All (Contains rows) rows (All-contains_itself rows))))
    (Contains-permutation (sorted_rows firsts) firsts row moved h)

pub union_among : (left right : List (List Value)) (row : List Value) → is_among (united false left right) row ≡ (is_among left row || is_among right row)
union_among left right row = distinct_among (left ++ right) row ∙ list_any-append (same_row row) left right

kept_among : (right rows : List (List Value)) (row : List Value) → is_among (filter (is_among right) rows) row ≡ (is_among right row && is_among rows row)
kept_among right rows row =
    any-filter_same (same_row row) (is_among right) (is_among right row) (λ other alike. sym (list_any_congr same row other right alike)) rows

left_among : (right rows : List (List Value)) (row : List Value) → is_among (filter (λ other. not (is_among right other)) rows) row ≡ (not (is_among right row) && is_among rows row)
left_among right rows row =
    any-filter_same (same_row row) (λ other. not (is_among right other)) (not (is_among right row)) (λ other alike. ap not (sym (list_any_congr same row other right alike))) rows

and_turned : (a b : Bool) → (a && b) ≡ (b && a)
and_turned true true = refl
and_turned true false = refl
and_turned false true = refl
and_turned false false = refl

pub intersection_among : (left right : List (List Value)) (row : List Value) → is_among (intersected left right) row ≡ (is_among left row && is_among right row)
intersection_among left right row =
    kept_among right (distinct_rows left) row ∙ ap (λ b. is_among right row && b) (distinct_among left row) ∙ and_turned (is_among right row) (is_among left row)

pub difference_among : (left right : List (List Value)) (row : List Value) → is_among (excepted left right) row ≡ (is_among left row && not (is_among right row))
difference_among left right row =
    left_among right (distinct_rows left) row ∙ ap (λ b. not (is_among right row) && b) (distinct_among left row) ∙ and_turned (not (is_among right row)) (is_among left row)

pub intersection_strict : (left right : List (List Value)) → IsStrictlySortedBy row_order_of (intersected left right)
intersection_strict left right = IsStrictlySortedBy-filter row_order_of (is_among right) (distinct_rows left) (distinct_strict left)

pub difference_strict : (left right : List (List Value)) → IsStrictlySortedBy row_order_of (excepted left right)
difference_strict left right = IsStrictlySortedBy-filter row_order_of (λ row. not (is_among right row)) (distinct_rows left) (distinct_strict left)
