-- The rows of a table from a number on.
use Rattle.std.proofs.Common.{◌≡◌, ℕ, suc, ◌<◌, ◌≤◌, true, false, cond, ltb, List, [], ◌∷◌, map, fold, Option, Some, None, T, refl, sym, ap, ◌∙◌, arith}
use Rattle.std.specs.Ordering.{nat_cmp}
use Rattle.std.specs.FinMap.{entries, entries_sorted, get-entries, find, is_sorted, values}
use Rattle.std.proofs.lemmas.Bool.Decides.{nat_tests}
use Rattle.hs_base.specs.declared.numbers.RowNo.{RowNo}
use Rattle.hs_values.specs.declared.value.Value.{Value}
use Rattle.hs_index.specs.Table.{Rows}
use Rattle.hs_rows.specs.Numbers.{start, from_number, first_number, next_in, row_in, has_row, rows_from}

abbrev Entries : Type 0
Entries = List (ℕ × List Value)

-- where the numbers rise, no row is lost above the first
all_above : (k : ℕ) (e : ℕ × List Value) (es : Entries) → T (is_sorted nat_cmp (e ∷ es)) → from_number (suc e.0) es ≡ es
all_above k e [] h = refl
all_above k e (f ∷ fs) h = grind (arith, nat_tests)

-- the row of the first number from n on, and those behind it
record Step (n : ℕ) (r : ℕ) (es : Entries) : Type 0 where
  row : List Value
  found : find nat_cmp r es ≡ Some row
  split : from_number n es ≡ (r, row) ∷ from_number (suc r) es

sorted_parts : (e : ℕ × List Value) (es : Entries) → T (is_sorted nat_cmp (e ∷ es)) → T (is_sorted nat_cmp es)
sorted_parts e es h = grind arith

at_front : (e : ℕ × List Value) (r : RowNo) → Some (record { 0 = e.0 }) ≡ Some r → e.0 ≡ r.0
at_front e r h = cc

-- the row of a first number stands at it or behind it
record Above (n r : ℕ) (es : Entries) : Type 0 where
  step : Step n r es
  above : n ≤ r

step : (n : ℕ) (r : RowNo) (es : Entries) → T (is_sorted nat_cmp es) → first_number (from_number n es) ≡ Some r → Above n r.0 es
step n r [] h e = cc
step n r (e ∷ es) h f = elim (ltb e.0 n) as (λ b. ltb e.0 n ≡ b → Above n r.0 (e ∷ es)) [
  | true ↦ (λ low.
      let later : from_number n (e ∷ es) ≡ from_number n es = ap (λ b. cond b (from_number n es) (e ∷ es)) low in
      let s = step n r es (sorted_parts e es h) (sym (ap first_number later) ∙ f) in
      record {
        step = record {
          row = s.step.row;
          found = grind (arith, nat_tests, s.step.found, s.above);
          split = grind (arith, nat_tests, s.step.split, s.above);
        };
        above = s.above;
      })
  | false ↦ (λ high.
      let now : from_number n (e ∷ es) ≡ e ∷ es = ap (λ b. cond b (from_number n es) (e ∷ es)) high in
      let same : e.0 ≡ r.0 = at_front e r (sym (ap first_number now) ∙ f) in
      record {
        step = record {
          row = e.1;
          found = grind (arith, nat_tests);
          split = now ∙ (let rest = all_above n e es h in let low : e.0 < suc r.0 = omega arith in grind (arith, nat_tests));
        };
        above = grind (arith, nat_tests);
      })
] refl

nothing : (es : Entries) → first_number es ≡ None → map (λ (e : ℕ × List Value). e.1) es ≡ []
nothing [] e = refl
nothing (x ∷ es) e = cc

all_from : (es : Entries) → from_number 0 es ≡ es
all_from [] = refl
all_from (e ∷ es) = grind (arith, nat_tests)

-- what the first number from n on tells
pub record Next (rows : Rows) (n : ℕ) (r : ℕ) : Type 0 where
  pub row : List Value
  pub there : row_in rows r ≡ Some row
  pub rest : rows_from rows n ≡ row ∷ rows_from rows (suc r)

pub next_there : (rows : Rows) (after : Option RowNo) (r : RowNo) → Some r ≡ next_in rows after → Next rows (start after) r.0
unfolding next_in rows_from row_in
next_there rows after r e =
    let a = step (start after) r (entries rows) (entries_sorted rows) (sym e) in
    let s = a.step in
    record { row = s.row; there = get-entries rows r.0 ∙ s.found; rest = ap (map (λ (e : ℕ × List Value). e.1)) s.split }

pub none_left : (rows : Rows) (after : Option RowNo) → None ≡ next_in rows after → rows_from rows (start after) ≡ []
unfolding next_in rows_from
none_left rows after e = nothing (from_number (start after) (entries rows)) (sym e)

pub from_the_first : (rows : Rows) → rows_from rows 0 ≡ values rows
unfolding rows_from
from_the_first rows = ap (map (λ (e : ℕ × List Value). e.1)) (all_from (entries rows))

-- ---- what takes them in

-- one more row was taken in
pub one_taken : {X : Type 0} (f : X → List Value → X) (rows : Rows) (after : Option RowNo) (r : RowNo) (x : X) (row : List Value) → Some r ≡ next_in rows after → row_in rows r.0 ≡ Some row → fold f x (rows_from rows (start after)) ≡ fold f (f x row) (rows_from rows (suc r.0))
one_taken f rows after r x row e there =
    let n = next_there rows after r e in
    let same : n.row ≡ row = (let a = n.there in cc) in
    ap (fold f x) n.rest ∙ ap (λ z. fold f (f x z) (rows_from rows (suc r.0))) same

-- the row of a number that `next_in` tells is there
pub never_missing : {P : Type 0} (rows : Rows) (after : Option RowNo) (r : RowNo) → Some r ≡ next_in rows after → false ≡ has_row rows r.0 → P
never_missing rows after r e f = let n = next_there rows after r e in let t = n.there in grind arith

-- the last row was taken in
pub all_taken : {X : Type 0} (f : X → List Value → X) (rows : Rows) (after : Option RowNo) (x : X) → None ≡ next_in rows after → fold f x (rows_from rows (start after)) ≡ x
all_taken f rows after x e = ap (fold f x) (none_left rows after e)

pub taken_from_the_first : {X : Type 0} (f : X → List Value → X) (rows : Rows) (x : X) → fold f x (rows_from rows (start None)) ≡ fold f x (values rows)
taken_from_the_first f rows x = ap (fold f x) (from_the_first rows)
