-- What a search in a set of rows finds: a row's place, or the gap where it would be.
use Rattle.std.proofs.Common.{◌≡◌, ℕ, zero, suc, ◌<◌, ◌≤◌, cond, inl, inr, List, [], ◌∷◌, length, get_or, refl, sym, ap, subst, ◌∙◌, arith, tests}
use Rattle.std.proofs.lemmas.Bool.{cases_eq}
use Rattle.std.proofs.lemmas.Cmp.{ranked}
use Rattle.std.proofs.lemmas.Map.Keys.{Less-from_sorted, sorted_tail}
use Rattle.std.specs.List.{AllWithin, HoldsAt, insert, remove}
use Rattle.std.specs.List.Sorted.{IsNonDecreasingBy, IsPartitionPoint}
use Rattle.std.specs.Ordering.{nat_cmp, match_ordering, ordering_index, is_eq}
use Rattle.std.specs.declared.cmp.Ordering.TheVariants.{Less, Equal, Greater}
use Rattle.hs_base.specs.declared.numbers.RowNo.{RowNo}
use Rattle.hs_index.specs.RowSets.{row_cmp, IsAscending, with_row, without_row}
use Rattle.hs_index.proofs.RowSets.{row_total, turned}

higher : (a b c : ℕ) → a < b → ordering_index (nat_cmp a c) ≤ ordering_index (nat_cmp b c)
higher a b c lt = grind (arith, tests)

-- the comparisons with a row rise along a set, as a binary search asks
pub comparisons_rise : (rows : List RowNo) (row : RowNo) → IsAscending rows → IsNonDecreasingBy (λ y. ordering_index (row_cmp y row)) rows
comparisons_rise rows row s i j d le lt = elim (cases_eq i j) [
  | inl e ↦ subst (λ k. ordering_index (row_cmp (get_or rows i d) row) ≤ ordering_index (row_cmp (get_or rows k d) row)) e (omega arith)
  | inr ne ↦
      let rise : (get_or rows i d).0 < (get_or rows j d).0 = ranked _ _ Less (sym (Less-from_sorted row_cmp rows i j d s (omega arith) lt)) in
      higher (get_or rows i d).0 (get_or rows j d).0 row.0 rise
]

-- a row that stands behind the first is above it
above_first : (x : RowNo) (xs : List RowNo) (k : ℕ) (row : RowNo) → k < length xs → IsAscending (x ∷ xs) → HoldsAt (λ y. row_cmp y row ≡ Equal) xs k → row_cmp row x ≡ Greater
above_first x xs k row h s e =
    let less : row_cmp x (get_or xs k x) ≡ Less = Less-from_sorted row_cmp (x ∷ xs) 0 (suc k) x s (omega arith) (omega arith) in
    sym (row_total.congr (get_or xs k x) row x (e x)) ∙ turned x (get_or xs k x) Less less

-- ---- at its place

pub put_where_found : (rows : List RowNo) (k : ℕ) (row : RowNo) → k < length rows → IsAscending rows → HoldsAt (λ y. row_cmp y row ≡ Equal) rows k → with_row row rows ≡ rows
put_where_found [] k row h s e = absurd (omega arith)
put_where_found (x ∷ xs) zero row h s e = ap (λ o. match_ordering o (row ∷ x ∷ xs) (x ∷ xs) (x ∷ with_row row xs)) (turned x row Equal (e x))
put_where_found (x ∷ xs) (suc k) row h s e =
    ap (λ o. match_ordering o (row ∷ x ∷ xs) (x ∷ xs) (x ∷ with_row row xs)) (above_first x xs k row (omega arith) s e)
    ∙ ap (λ ys. x ∷ ys) (put_where_found xs k row (omega arith) (sorted_tail row_cmp x xs s) e)

pub taken_where_found : (rows : List RowNo) (k : ℕ) (row : RowNo) → k < length rows → IsAscending rows → HoldsAt (λ y. row_cmp y row ≡ Equal) rows k → without_row row rows ≡ remove rows k
taken_where_found [] k row h s e = absurd (omega arith)
taken_where_found (x ∷ xs) zero row h s e = ap (λ o. cond (is_eq o) xs (x ∷ without_row row xs)) (turned x row Equal (e x))
taken_where_found (x ∷ xs) (suc k) row h s e =
    ap (λ o. cond (is_eq o) xs (x ∷ without_row row xs)) (above_first x xs k row (omega arith) s e)
    ∙ ap (λ ys. x ∷ ys) (taken_where_found xs k row (omega arith) (sorted_tail row_cmp x xs s) e)

-- ---- at the gap

pub put_at_gap : (rows : List RowNo) (k : ℕ) (row : RowNo) → k ≤ length rows → AllWithin (λ y. row_cmp y row ≡ Less) rows 0 k → AllWithin (λ y. row_cmp y row ≡ Greater) rows k (length rows) → with_row row rows ≡ insert rows k row
put_at_gap [] zero row h below above = refl
put_at_gap [] (suc k) row h below above = absurd (omega arith)
put_at_gap (x ∷ xs) zero row h below above =
    ap (λ o. match_ordering o (row ∷ x ∷ xs) (x ∷ xs) (x ∷ with_row row xs)) (turned x row Greater (above 0 x (omega arith) (omega arith)))
put_at_gap (x ∷ xs) (suc k) row h below above =
    ap (λ o. match_ordering o (row ∷ x ∷ xs) (x ∷ xs) (x ∷ with_row row xs)) (turned x row Less (below 0 x (omega arith) (omega arith)))
    ∙ ap (λ ys. x ∷ ys) (put_at_gap xs k row (omega arith) (λ i d low high. below (suc i) d (omega arith) (omega arith)) (λ i d low high. above (suc i) d (omega arith) (omega arith)))

pub taken_at_gap : (rows : List RowNo) (k : ℕ) (row : RowNo) → k ≤ length rows → AllWithin (λ y. row_cmp y row ≡ Less) rows 0 k → AllWithin (λ y. row_cmp y row ≡ Greater) rows k (length rows) → without_row row rows ≡ rows
taken_at_gap [] k row h below above = refl
taken_at_gap (x ∷ xs) zero row h below above =
    ap (λ o. cond (is_eq o) xs (x ∷ without_row row xs)) (turned x row Greater (above 0 x (omega arith) (omega arith)))
    ∙ ap (λ ys. x ∷ ys) (taken_at_gap xs zero row (omega arith) (λ i d low high. absurd (omega arith)) (λ i d low high. above (suc i) d (omega arith) (omega arith)))
taken_at_gap (x ∷ xs) (suc k) row h below above =
    ap (λ o. cond (is_eq o) xs (x ∷ without_row row xs)) (turned x row Less (below 0 x (omega arith) (omega arith)))
    ∙ ap (λ ys. x ∷ ys) (taken_at_gap xs k row (omega arith) (λ i d low high. below (suc i) d (omega arith) (omega arith)) (λ i d low high. above (suc i) d (omega arith) (omega arith)))

-- ---- what a binary search in a slice of the set says

module _ (rows slice : List RowNo) (row : RowNo) (k : ℕ) (is : slice ≡ rows) (s : IsAscending rows) where
  abbrev Finds : Type 0
  Finds = (k < length slice) × HoldsAt (λ y. row_cmp y row ≡ Equal) slice k

  abbrev Misses : Type 0
  Misses = (k ≤ length slice) × (IsNonDecreasingBy (λ y. ordering_index (row_cmp y row)) slice → IsPartitionPoint (λ y. row_cmp y row ≡ Less) (λ y. row_cmp y row ≡ Greater) slice k)

  found_there : Finds → (k < length rows) × HoldsAt (λ y. row_cmp y row ≡ Equal) rows k
  found_there f = subst (λ xs. (k < length xs) × HoldsAt (λ y. row_cmp y row ≡ Equal) xs k) is f

  gap_there : Misses → (k ≤ length rows) × IsPartitionPoint (λ y. row_cmp y row ≡ Less) (λ y. row_cmp y row ≡ Greater) rows k
  gap_there m = subst (λ xs. (k ≤ length xs) × IsPartitionPoint (λ y. row_cmp y row ≡ Less) (λ y. row_cmp y row ≡ Greater) xs k) is (m.0, m.1 (comparisons_rise slice row (subst IsAscending (sym is) s)))

  pub put_found : Finds → with_row row rows ≡ rows
  put_found f = let t = found_there f in put_where_found rows k row t.0 s t.1

  pub taken_found : Finds → without_row row rows ≡ remove rows k
  taken_found f = let t = found_there f in taken_where_found rows k row t.0 s t.1

  pub put_gap : Misses → with_row row rows ≡ insert rows k row
  put_gap m = let g = gap_there m in put_at_gap rows k row g.0 g.1.0 g.1.1

  pub taken_gap : Misses → without_row row rows ≡ rows
  taken_gap m = let g = gap_there m in taken_at_gap rows k row g.0 g.1.0 g.1.1
