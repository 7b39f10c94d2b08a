-- The rows of a table, each by its number, in ascending order.
use Rattle.std.proofs.Common.{◌≡◌, ℕ, Bool, true, false, ◌&&◌, cond, List, [], ◌∷◌, filter, map, Option, Some, None, refl, sym, ap, ◌∙◌, T}
use Rattle.std.specs.Cmp.{nat_cmp_total, tied_itself}
use Rattle.std.specs.FinMap.{entries, get, get-entries, entries_sorted, find, is_sorted}
use Rattle.std.specs.FinMap.Entries.{below_all}
use Rattle.std.specs.Ordering.{nat_cmp, is_eq, is_lt, ordering_reverse}
use Rattle.std.specs.declared.cmp.Ordering.{Ordering}
use Rattle.std.specs.declared.cmp.Ordering.TheVariants.{Less, Equal, Greater}
use Rattle.hs_base.specs.declared.numbers.RowNo.{RowNo}
use Rattle.hs_values.specs.declared.value.Value.{Value}
use Rattle.hs_index.specs.Table.{Rows, has_key}
use Rattle.hs_dml.specs.Rows.{number_of}

abbrev pub Entries : Type 0
Entries = List (ℕ × List Value)

-- each entry is the row of its number
abbrev pub Stand : Rows → Entries → Type 0
Stand rows [] = Unit {0}
Stand rows (e ∷ es) = (get rows e.0 ≡ Some e.1) × Stand rows es

-- each of these is above a number
abbrev pub Above : ℕ → Entries → Type 0
Above n [] = Unit {0}
Above n (e ∷ es) = (nat_cmp e.0 n ≡ Greater) × Above n es

-- each is above those before it
abbrev pub Rise : Entries → Type 0
Rise [] = Unit {0}
Rise (e ∷ es) = Above e.0 es × Rise es

-- ---- a whole table

first_part : (a b : Bool) → T (a && b) → T a
first_part true b h = tt
first_part false b h = h

second_part : (a b : Bool) → T (a && b) → T b
second_part true b h = h
second_part false b h = absurd h

less_from : (o : Ordering) → T (is_lt o) → o ≡ Less
less_from Less h = refl
less_from Equal h = absurd h
less_from Greater h = absurd h

above_from : (n : ℕ) (es : Entries) → T (below_all nat_cmp n es) → Above n es
above_from n [] h = tt
above_from n (e ∷ es) h = (
  nat_cmp_total.antisymm e.0 n ∙ ap ordering_reverse (less_from (nat_cmp n e.0) (first_part (is_lt (nat_cmp n e.0)) (below_all nat_cmp n es) h)),
  above_from n es (second_part (is_lt (nat_cmp n e.0)) (below_all nat_cmp n es) h),
)

rise_from : (es : Entries) → T (is_sorted nat_cmp es) → Rise es
rise_from [] h = tt
rise_from (e ∷ es) h = (
  above_from e.0 es (first_part (below_all nat_cmp e.0 es) (is_sorted nat_cmp es) h),
  rise_from es (second_part (below_all nat_cmp e.0 es) (is_sorted nat_cmp es) h),
)

-- each entry is found by its number
abbrev Found : Entries → Entries → Type 0
Found all [] = Unit {0}
Found all (e ∷ es) = (find nat_cmp e.0 all ≡ Some e.1) × Found all es

behind_first : (first : ℕ × List Value) (all es : Entries) → Above first.0 es → Found all es → Found (first ∷ all) es
behind_first first all [] above found = tt
behind_first first all (e ∷ es) above found = (
  ap (λ o. cond (is_eq o) (Some first.1) (find nat_cmp e.0 all)) above.0 ∙ found.0,
  behind_first first all es above.1 found.1,
)

found_each : (es : Entries) → Rise es → Found es es
found_each [] h = tt
found_each (e ∷ es) h = (
  ap (λ o. cond (is_eq o) (Some e.1) (find nat_cmp e.0 es)) (tied_itself nat_cmp_total e.0),
  behind_first e es es h.0 (found_each es h.1),
)

stand_from : (rows : Rows) (es : Entries) → Found (entries rows) es → Stand rows es
stand_from rows [] h = tt
stand_from rows (e ∷ es) h = (get-entries rows e.0 ∙ h.0, stand_from rows es h.1)

pub all_rise : (rows : Rows) → Rise (entries rows)
all_rise rows = rise_from (entries rows) (entries_sorted rows)

pub all_stand : (rows : Rows) → Stand rows (entries rows)
all_stand rows = stand_from rows (entries rows) (found_each (entries rows) (all_rise rows))

-- ---- some of its rows

module _ (p : (ℕ × List Value) → Bool) where
  pub some_stand : (rows : Rows) (es : Entries) → Stand rows es → Stand rows (filter p es)
  some_stand rows [] h = tt
  some_stand rows (e ∷ es) h = by (some_stand rows es h.1) (p e)
    where
      by : Stand rows (filter p es) → (b : Bool) → Stand rows (cond b (e ∷ filter p es) (filter p es))
      by rest true = (h.0, rest)
      by rest false = rest

  some_above : (n : ℕ) (es : Entries) → Above n es → Above n (filter p es)
  some_above n [] h = tt
  some_above n (e ∷ es) h = by (some_above n es h.1) (p e)
    where
      by : Above n (filter p es) → (b : Bool) → Above n (cond b (e ∷ filter p es) (filter p es))
      by rest true = (h.0, rest)
      by rest false = rest

  pub some_rise : (es : Entries) → Rise es → Rise (filter p es)
  some_rise [] h = tt
  some_rise (e ∷ es) h = by (some_rise es h.1) (p e)
    where
      by : Rise (filter p es) → (b : Bool) → Rise (cond b (e ∷ filter p es) (filter p es))
      by rest true = (some_above e.0 es h.0, rest)
      by rest false = rest

-- ---- their numbers

abbrev row_of : ℕ → RowNo
row_of n = record { 0 = n }

back : (rows : List RowNo) → map row_of (map (λ r. r.0) rows) ≡ rows
back [] = refl
back (row ∷ rows) = ap (λ rs. row ∷ rs) (back rows)

over : (es : Entries) → map row_of (map (λ e. e.0) es) ≡ map number_of es
over [] = refl
over (e ∷ es) = ap (λ rs. number_of e ∷ rs) (over es)

pub numbers_are : (es : Entries) (found : List RowNo) → map (λ r. r.0) found ≡ map (λ e. e.0) es → found ≡ map number_of es
numbers_are es found is = sym (back found) ∙ ap (map row_of) is ∙ over es

-- each row has the key of no columns
all_keep : (es : Entries) → filter (λ e. has_key [] [] (Some e.1)) es ≡ es
all_keep [] = refl
all_keep (e ∷ es) = ap (λ rest. e ∷ rest) (all_keep es)

pub all_numbers : (rows : Rows) (found : List RowNo) → map (λ r. r.0) found ≡ map (λ e. e.0) (filter (λ e. has_key [] [] (Some e.1)) (entries rows)) → found ≡ map number_of (entries rows)
all_numbers rows found is = numbers_are (entries rows) found (is ∙ ap (map (λ e. e.0)) (all_keep (entries rows)))
