-- What an index says of the rows that have a key.
use Rattle.std.proofs.Common.{◌≡◌, ◌==◌, ℕ, Bool, true, false, not, ◌&&◌, ◌||◌, cond, List, [], ◌∷◌, length, map, filter, Option, Some, None, refl, sym, ap, ◌∙◌, T, arith}
use Rattle.std.proofs.lemmas.Bool.{and_parts, and_from, ne_eqb, or_right}
use Rattle.std.proofs.lemmas.Cmp.{ranked}
use Rattle.std.proofs.lemmas.Map.Lookups.{btree_set_from_contains, exact_unsigned}
use Rattle.std.specs.BTreeSet.{BTreeSet}
use Rattle.std.specs.Cmp.{nat_cmp_total}
use Rattle.std.specs.FinMap.{entries, entries_sorted, get, is_sorted}
use Rattle.std.specs.FinMap.Entries.{below_all}
use Rattle.std.specs.List.{AllByRecursion, list_any}
use Rattle.std.specs.List.Sorted.{IsStrictlySortedBy}
use Rattle.std.specs.Ordering.{nat_cmp, is_eq, is_lt}
use Rattle.std.specs.declared.cmp.Ordering.{Ordering}
use Rattle.std.specs.declared.cmp.Ordering.TheVariants.{Less, Equal, Greater}
use Rattle.hs_base.specs.declared.numbers.RowNo.{RowNo}
use Rattle.hs_values.specs.declared.value.Value.{Value}
use Rattle.hs_index.specs.RowSets.{row_cmp, IsAscending, is_row, has_row}
use Rattle.hs_index.specs.Rows.{Keyed, rows_with}
use Rattle.hs_index.specs.Table.{Rows, has_key, IsIndexOf}
use Rattle.hs_index.proofs.RowSets.{equal_from, row_itself}
use Rattle.hs_sentences.specs.Asking.{Test, any_row}
use Rattle.hs_sentences.proofs.Looking.{Found, any_row-found, any_row-from, same_tests}
use Rattle.hs_rows.specs.Numbers.{numbers_among, numbers_with}
use Rattle.hs_keyed.proofs.Stored.{Entries}

same_number : (a b : RowNo) → is_row a b ≡ true → a.0 ≡ b.0
same_number a b h = ranked a.0 b.0 Equal (sym (equal_from _ h))

-- ---- some of a set's rows

record Passing (p : ℕ → Bool) (list : List RowNo) : Type 0 where
  row : RowNo
  there : has_row list row ≡ true
  passes : p row.0 ≡ true

passing : (p : ℕ → Bool) (list : List RowNo) → list_any (λ r. p r.0) list ≡ true → Passing p list
passing p [] h = absurd (let no : false ≡ true = h in cc)
passing p (x ∷ xs) h = by (λ is. passing p xs is) (p x.0) refl h
  where
    by : (list_any (λ r. p r.0) xs ≡ true → Passing p xs) → (b : Bool) → p x.0 ≡ b → (b || list_any (λ r. p r.0) xs) ≡ true → Passing p (x ∷ xs)
    by more true is h = record { row = x; there = ap (λ b. b || has_row xs x) (row_itself x); passes = is }
    by more false is h = let f : Passing p xs = more h in record { row = f.row; there = or_right (is_row f.row x) (has_row xs f.row) f.there; passes = f.passes }

passes_there : (p : ℕ → Bool) (list : List RowNo) (row : RowNo) → has_row list row ≡ true → p row.0 ≡ true → list_any (λ r. p r.0) list ≡ true
passes_there p [] row h is = absurd (let no : false ≡ true = h in cc)
passes_there p (x ∷ xs) row h is = by (λ there. passes_there p xs row there is) (is_row row x) refl h
  where
    by : (has_row xs row ≡ true → list_any (λ r. p r.0) xs ≡ true) → (b : Bool) → is_row row x ≡ b → (b || has_row xs row) ≡ true → list_any (λ r. p r.0) (x ∷ xs) ≡ true
    by more true same h = ap (λ b. b || list_any (λ r. p r.0) xs) (ap p (sym (same_number row x same)) ∙ is)
    by more false other h = or_right (p x.0) (list_any (λ r. p r.0) xs) (more h)

-- a set isn't empty where it has a row
pub not_empty : (list : List RowNo) → not (length list == 0) ≡ list_any (λ (r : RowNo). true) list
not_empty [] = refl
not_empty (x ∷ xs) = ap not (ne_eqb (length (x ∷ xs)) 0 (λ e. omega (arith, e)))

-- ---- an index

module _ (columns : List ℕ) (rows : Rows) (keyed : Keyed) (is : IsIndexOf columns rows keyed) (key : List Value) where
  -- those of the rows under a key that pass by their numbers are the rows that have the key and pass
  pub index_tells : (p : ℕ → Bool) → list_any (λ r. p r.0) (rows_with keyed key) ≡ any_row (λ number row. p number && has_key columns key (Some row)) rows
  index_tells p = same_tests _ _ to from
    where
      passes : Test
      passes number row = p number && has_key columns key (Some row)

      there : (n : ℕ) (o : Option (List Value)) → get rows n ≡ o → p n ≡ true → has_key columns key o ≡ true → any_row passes rows ≡ true
      there n None at ok h = absurd (let no : false ≡ true = h in cc)
      there n (Some row) at ok h = any_row-from passes rows n row at (and_from (p n) (has_key columns key (Some row)) ok h)

      to : list_any (λ r. p r.0) (rows_with keyed key) ≡ true → any_row passes rows ≡ true
      to h = let f : Passing p (rows_with keyed key) = passing p (rows_with keyed key) h in there f.row.0 (get rows f.row.0) refl f.passes (sym (is key f.row) ∙ f.there)

      from : any_row passes rows ≡ true → list_any (λ r. p r.0) (rows_with keyed key) ≡ true
      from h =
          let f : Found passes rows = any_row-found passes rows h in
          let parts = and_parts (p f.number) (has_key columns key (Some f.row)) f.passes in
          passes_there p (rows_with keyed key) (record { 0 = f.number }) (is key (record { 0 = f.number }) ∙ ap (has_key columns key) f.there ∙ parts.1) parts.0

  -- ---- the numbers under a key

  ascending_numbers : (list : List RowNo) → IsAscending list → IsStrictlySortedBy nat_cmp (map (λ r. r.0) list)
  unfolding IsStrictlySortedBy
  ascending_numbers [] s = tt
  ascending_numbers (x ∷ xs) s = (below x xs s.0, ascending_numbers xs s.1)
    where
      below : (a : RowNo) (list : List RowNo) → AllByRecursion (λ y. row_cmp a y ≡ Less) list → AllByRecursion (λ y. nat_cmp a.0 y ≡ Less) (map (λ r. r.0) list)
      below a [] h = tt
      below a (y ∷ ys) h = (h.0, below a ys h.1)

  first : (a b : Bool) → T (a && b) → T a
  first true b h = tt
  first false b h = h

  second : (a b : Bool) → T (a && b) → T b
  second true b h = h
  second false b h = absurd h

  less_from : (o : Ordering) → T (is_lt o) → o ≡ Less
  less_from Less h = refl
  less_from Equal h = absurd h
  less_from Greater h = absurd h

  below_kept : (x : ℕ) (es : Entries) → T (below_all nat_cmp x es) → AllByRecursion (λ y. nat_cmp x y ≡ Less) (numbers_among columns key es)
  below_kept x [] h = tt
  below_kept x (e ∷ es) h = by (has_key columns key (Some e.1)) (below_kept x es (second _ _ h))
    where
      by : (b : Bool) → AllByRecursion (λ y. nat_cmp x y ≡ Less) (numbers_among columns key es) → AllByRecursion (λ y. nat_cmp x y ≡ Less) (map (λ e. e.0) (cond b (e ∷ filter (λ e. has_key columns key (Some e.1)) es) (filter (λ e. has_key columns key (Some e.1)) es)))
      by true more = (less_from _ (first _ _ h), more)
      by false more = more

  kept_ascend : (es : Entries) → T (is_sorted nat_cmp es) → IsStrictlySortedBy nat_cmp (numbers_among columns key es)
  unfolding IsStrictlySortedBy
  kept_ascend [] s = tt
  kept_ascend (e ∷ es) s = by (has_key columns key (Some e.1)) (kept_ascend es (second _ _ s))
    where
      by : (b : Bool) → IsStrictlySortedBy nat_cmp (numbers_among columns key es) → IsStrictlySortedBy nat_cmp (map (λ e. e.0) (cond b (e ∷ filter (λ e. has_key columns key (Some e.1)) es) (filter (λ e. has_key columns key (Some e.1)) es)))
      by true more = (below_kept e.0 es (first _ _ s), more)
      by false more = more

  numbered : (list : List RowNo) (q : ℕ) → list_any (λ y. is_eq (nat_cmp q y)) (map (λ r. r.0) list) ≡ has_row list (record { 0 = q })
  numbered [] q = refl
  numbered (x ∷ xs) q = ap (λ b. is_eq (nat_cmp q x.0) || b) (numbered xs q)

  kept_or_not : (b t x y : Bool) → x ≡ y → cond b (t || x) x ≡ ((t && b) || y)
  kept_or_not true true x y h = refl
  kept_or_not true false x y h = h
  kept_or_not false true x y h = h
  kept_or_not false false x y h = h

  among : (es : Entries) (q : ℕ) → list_any (λ y. is_eq (nat_cmp q y)) (numbers_among columns key es) ≡ list_any (λ e. is_eq (nat_cmp q e.0) && has_key columns key (Some e.1)) es
  among [] q = refl
  among (e ∷ es) q = split (has_key columns key (Some e.1)) ∙ kept_or_not (has_key columns key (Some e.1)) (is_eq (nat_cmp q e.0)) _ _ (among es q)
    where
      rest : List (ℕ × List Value)
      rest = filter (λ e. has_key columns key (Some e.1)) es

      split : (b : Bool) → list_any (λ y. is_eq (nat_cmp q y)) (map (λ e. e.0) (cond b (e ∷ rest) rest)) ≡ cond b (is_eq (nat_cmp q e.0) || list_any (λ y. is_eq (nat_cmp q y)) (map (λ e. e.0) rest)) (list_any (λ y. is_eq (nat_cmp q y)) (map (λ e. e.0) rest))
      split true = refl
      split false = refl

  pub index_numbers : IsAscending (rows_with keyed key) → map (λ r. r.0) (rows_with keyed key) ≡ numbers_with columns key rows
  index_numbers s =
      let found : BTreeSet ℕ = record { keys = map (λ r. r.0) (rows_with keyed key) } in
      let wanted : BTreeSet ℕ = record { keys = numbers_with columns key rows } in
      btree_set_from_contains nat_cmp_total found wanted
      (ascending_numbers (rows_with keyed key) s) (kept_ascend (entries rows) (entries_sorted rows))
      (λ q. numbered (rows_with keyed key) q ∙ index_has q ∙ sym (among (entries rows) q))
      exact_unsigned
    where
      index_has : (q : ℕ) → has_row (rows_with keyed key) (record { 0 = q }) ≡ any_row (λ number row. is_eq (nat_cmp q number) && has_key columns key (Some row)) rows
      index_has q = index_tells (λ n. is_eq (nat_cmp q n))
