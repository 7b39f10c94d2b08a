-- Rows by their numbers, and those of them that have a key.
use Rattle.std.proofs.Common.{◌≡◌, ℕ, ◌+◌, ◌<◌, Bool, true, false, cond, List, [], ◌∷◌, ◌++◌, filter, length, map, take, get_or, is_some, Option, None, Some, T, refl, sym, ap, ◌∙◌, arith}
use Rattle.std.proofs.lemmas.Bool.Decides.{nat_tests}
use Rattle.std.proofs.lemmas.List.{append-nil, map-append, take_more}
use Rattle.std.proofs.lemmas.List.Elements.{filter_map-append}
use Rattle.std.specs.FinMap.{FinMap, entries, entries_sorted, get, get-entries, find, is_sorted, values}
use Rattle.std.specs.FinMap.Entries.{below_all}
use Rattle.std.specs.List.{cons_option, filter_map}
use Rattle.std.specs.Ordering.{nat_cmp}
use Rattle.hs_base.specs.declared.numbers.RowNo.{RowNo}
use Rattle.hs_values.specs.declared.value.Value.{Value}
use Rattle.hs_index.specs.Table.{Rows, has_key}
use Rattle.hs_rows.specs.Numbers.{has_row, numbers_with, row_in, rows_numbered}

-- ---- a key

module _ {V : Type 0} (p : V → Bool) where
  abbrev kept : List (ℕ × V) → List (ℕ × V)
  kept es = filter (λ e. p e.1) es

  abbrev numbers : List (ℕ × V) → List ℕ
  numbers es = map (λ e. e.0) es

  abbrev found : List (ℕ × V) → List ℕ → List V
  found es = filter_map (λ n. find nat_cmp n es)

  -- a number above the first isn't that of the first
  another : (e f : ℕ × V) (es fs : List (ℕ × V)) → T (below_all nat_cmp e.0 (f ∷ fs)) → find nat_cmp f.0 (e ∷ es) ≡ find nat_cmp f.0 es
  another e f es fs h = grind (arith, nat_tests)

  itself : (e : ℕ × V) (es : List (ℕ × V)) → find nat_cmp e.0 (e ∷ es) ≡ Some e.1
  itself e es = grind (arith, nat_tests)

  rest_below : (n : ℕ) (f : ℕ × V) (fs : List (ℕ × V)) → T (below_all nat_cmp n (f ∷ fs)) → T (below_all nat_cmp n fs)
  rest_below n f fs h = grind (arith, nat_tests)

  all_below : (e : ℕ × V) (es : List (ℕ × V)) → T (is_sorted nat_cmp (e ∷ es)) → T (below_all nat_cmp e.0 es)
  all_below e es h = grind (arith, nat_tests)

  rest_sorted : (e : ℕ × V) (es : List (ℕ × V)) → T (is_sorted nat_cmp (e ∷ es)) → T (is_sorted nat_cmp es)
  rest_sorted e es h = grind (arith, nat_tests)

  behind : (e : ℕ × V) (es fs : List (ℕ × V)) → T (below_all nat_cmp e.0 fs) → found (e ∷ es) (numbers (kept fs)) ≡ found es (numbers (kept fs))
  behind e es [] h = refl
  behind e es (f ∷ fs) h = by (p f.1) (another e f es fs h) (behind e es fs (rest_below e.0 f fs h))
    where
      by : (b : Bool) → find nat_cmp f.0 (e ∷ es) ≡ find nat_cmp f.0 es → found (e ∷ es) (numbers (kept fs)) ≡ found es (numbers (kept fs)) → found (e ∷ es) (numbers (cond b (f ∷ kept fs) (kept fs))) ≡ found es (numbers (cond b (f ∷ kept fs) (kept fs)))
      by true here rest = λ i. cons_option (here i) (rest i)
      by false here rest = rest

  pub each_found : (es : List (ℕ × V)) → T (is_sorted nat_cmp es) → found es (numbers (kept es)) ≡ filter p (map (λ (e : ℕ × V). e.1) es)
  each_found [] h = refl
  each_found (e ∷ es) h = by (p e.1) (behind e es es (all_below e es h) ∙ each_found es (rest_sorted e es h))
    where
      by : (b : Bool) → found (e ∷ es) (numbers (kept es)) ≡ filter p (map (λ (e : ℕ × V). e.1) es) → found (e ∷ es) (numbers (cond b (e ∷ kept es) (kept es))) ≡ cond b (e.1 ∷ filter p (map (λ (e : ℕ × V). e.1) es)) (filter p (map (λ (e : ℕ × V). e.1) es))
      by true rest = λ i. cons_option (itself e es i) (rest i)
      by false rest = rest

  pub each_got : (m : FinMap nat_cmp V) → filter_map (get m) (numbers (kept (entries m))) ≡ filter p (values m)
  each_got m = (λ i. filter_map (λ n. get-entries m n i) (numbers (kept (entries m)))) ∙ each_found (entries m) (entries_sorted m)

pub rows_with_key : (columns : List ℕ) (key : List Value) (rows : Rows) → rows_numbered rows (numbers_with columns key rows) ≡ filter (λ row. has_key columns key (Some row)) (values rows)
unfolding row_in
rows_with_key columns key rows = each_got (λ row. has_key columns key (Some row)) rows

-- ---- one number more

abbrev first_numbered : Rows → List RowNo → ℕ → List (List Value)
first_numbered rows numbers i = rows_numbered rows (map (λ (r : RowNo). r.0) (take i numbers))

abbrev number_at : List RowNo → ℕ → ℕ
number_at numbers i = (get_or numbers i (record { 0 = 0 })).0

numbered_more : (rows : Rows) (numbers : List RowNo) (i : ℕ) → i < length numbers → first_numbered rows numbers (i + 1) ≡ first_numbered rows numbers i ++ cons_option (row_in rows (number_at numbers i)) []
numbered_more rows numbers i low =
    ap (λ (l : List RowNo). rows_numbered rows (map (λ (r : RowNo). r.0) l)) (take_more numbers i (record { 0 = 0 }) low)
    ∙ ap (rows_numbered rows) (map-append (λ (r : RowNo). r.0) (take i numbers) (get_or numbers i (record { 0 = 0 }) ∷ []))
    ∙ filter_map-append (row_in rows) (map (λ (r : RowNo). r.0) (take i numbers)) (number_at numbers i ∷ [])

pub one_there : (rows : Rows) (numbers : List RowNo) (i : ℕ) (row : List Value) → i < length numbers → row_in rows (number_at numbers i) ≡ Some row → first_numbered rows numbers i ++ row ∷ [] ≡ first_numbered rows numbers (i + 1)
one_there rows numbers i row low is = sym (numbered_more rows numbers i low ∙ ap (λ (o : Option (List Value)). first_numbered rows numbers i ++ cons_option o []) is)

pub one_missing : (rows : Rows) (numbers : List RowNo) (i : ℕ) → i < length numbers → has_row rows (number_at numbers i) ≡ false → first_numbered rows numbers i ≡ first_numbered rows numbers (i + 1)
one_missing rows numbers i low is = sym (numbered_more rows numbers i low ∙ by (row_in rows (number_at numbers i)) is)
  where
    by : (o : Option (List Value)) → is_some o ≡ false → first_numbered rows numbers i ++ cons_option o [] ≡ first_numbered rows numbers i
    by None h = append-nil (first_numbered rows numbers i)
    by (Some row) h = absurd (cc)
