-- The rows of a table that were read, up to a number.
use Rattle.std.proofs.Common.{◌≡◌, inl, inr, ℕ, suc, ◌==◌, ◌<◌, ◌≤◌, Bool, true, false, cond, ltb, List, [], ◌∷◌, ◌++◌, unwrap_or, Option, Some, None, T, refl, sym, ap, ◌∙◌, arith}
use Rattle.std.specs.Cmp.{nat_cmp_total}
use Rattle.std.specs.FinMap.{empty, entries, entries_sorted, find, get, get-empty, get-entries, get-insert, insert, is_sorted, nat_cmp-IsAntisymmetric, same_map}
use Rattle.std.specs.Ordering.{eq_by_cmp, nat_cmp}
use Rattle.std.proofs.lemmas.Bool.Decides.{eqb_tells, nat_tests}
use Rattle.std.proofs.lemmas.List.Folds.{list_any-append}
use Rattle.std.proofs.lemmas.List.Sums.{fold-append}
use Rattle.hs_base.specs.declared.numbers.RowNo.{RowNo}
use Rattle.hs_base.specs.declared.numbers.TableNo.{TableNo}
use Rattle.hs_values.specs.declared.value.Value.{Value}
use Rattle.hs_index.specs.Table.{Rows}
use Rattle.hs_changes.specs.Settings.{Maps}
use Rattle.hs_rows.specs.Numbers.{first_number, from_number, next_in, row_in, start}
use Rattle.hs_before.specs.declared.held_rows.TableRows.{TableRows}
use Rattle.hs_before.specs.Family.{has_number, is_in}
use Rattle.hs_before.specs.Held.{found_in, rows_at}

abbrev Entries : Type 0
Entries = List (ℕ × List Value)

-- ---- the numbers between

-- below the first entry there is none
below_first : (k : ℕ) (e : ℕ × List Value) (es : Entries) → T (is_sorted nat_cmp (e ∷ es)) → k < e.0 → find nat_cmp k (e ∷ es) ≡ None
below_first k e [] h low = grind (arith, nat_tests)
below_first k e (f ∷ fs) h low =
    let next : e.0 < f.0 = grind (arith, nat_tests) in
    let rest = below_first k f fs (later h) (omega (arith, next, low)) in
    grind (arith, nat_tests, rest)
  where
    later : T (is_sorted nat_cmp (e ∷ f ∷ fs)) → T (is_sorted nat_cmp (f ∷ fs))
    later h = grind arith

-- what the first number from n on tells: it isn't below n, and no number between has a row
record First (n r : ℕ) (es : Entries) : Type 0 where
  above : n ≤ r
  between : (k : ℕ) → n ≤ k → k < r → find nat_cmp k es ≡ None

tail_sorted : (e : ℕ × List Value) (es : Entries) → T (is_sorted nat_cmp (e ∷ es)) → T (is_sorted nat_cmp es)
tail_sorted e es h = grind arith

at_front : (e : ℕ × List Value) (r : RowNo) → Some (record { 0 = e.0 }) ≡ Some r → e.0 ≡ r.0
at_front e r h = cc

first_tells : (n : ℕ) (r : RowNo) (es : Entries) → T (is_sorted nat_cmp es) → first_number (from_number n es) ≡ Some r → First n r.0 es
first_tells n r [] h f = cc
first_tells n r (e ∷ es) h f = elim (ltb e.0 n) as (λ b. ltb e.0 n ≡ b → First n r.0 (e ∷ es)) [
  | true ↦ (λ low.
      let later : from_number n (e ∷ es) ≡ from_number n es = ap (λ b. cond b (from_number n es) (e ∷ es)) low in
      let s = first_tells n r es (tail_sorted e es h) (sym (ap first_number later) ∙ f) in
      record {
        above = s.above;
        between = λ k from below. (let rest = s.between k from below in grind (arith, nat_tests, rest));
      })
  | false ↦ (λ high.
      let now : from_number n (e ∷ es) ≡ e ∷ es = ap (λ b. cond b (from_number n es) (e ∷ es)) high in
      let same : e.0 ≡ r.0 = at_front e r (sym (ap first_number now) ∙ f) in
      record {
        above = grind (arith, nat_tests);
        between = λ k from below. below_first k e es h (omega (arith, same, below));
      })
] refl

-- no number from n on has a row
none_tells : (n : ℕ) (es : Entries) → first_number (from_number n es) ≡ None → (k : ℕ) → n ≤ k → find nat_cmp k es ≡ None
none_tells n [] f k from = refl
none_tells n (e ∷ es) f k from = elim (ltb e.0 n) as (λ b. ltb e.0 n ≡ b → find nat_cmp k (e ∷ es) ≡ None) [
  | true ↦ (λ low.
      let later : from_number n (e ∷ es) ≡ from_number n es = ap (λ b. cond b (from_number n es) (e ∷ es)) low in
      let rest = none_tells n es (sym (ap first_number later) ∙ f) k from in
      grind (arith, nat_tests, rest))
  | false ↦ (λ high.
      let now : from_number n (e ∷ es) ≡ e ∷ es = ap (λ b. cond b (from_number n es) (e ∷ es)) high in
      let row : RowNo = record { 0 = e.0 } in
      let clash : Some row ≡ None = sym (ap first_number now) ∙ f in
      absurd (cc))
] refl

-- ---- the rows up to a number

-- these are the rows below a number
abbrev pub AreBelow : Rows → ℕ → Rows → Type 0
AreBelow rows n held = (k : ℕ) → get held k ≡ cond (ltb k n) (get rows k) None

pub none_yet : (rows : Rows) → AreBelow rows (start None) empty
none_yet rows k = get-empty nat_cmp k ∙ sym (ap (λ b. cond b (get rows k) None) (not_below k))
  where
    not_below : (k : ℕ) → ltb k 0 ≡ false
    not_below k = grind (arith, nat_tests)

one_above : (rows held : Rows) (n r : ℕ) (row : List Value) → First n r (entries rows) → get rows r ≡ Some row → AreBelow rows n held → AreBelow rows (suc r) (insert held r row)
one_above rows held n r row first there below k =
    get-insert nat_cmp_total held r row k
    ∙ elim (eqb_tells k r) [
      | inl both ↦
          let here : eq_by_cmp nat_cmp k r ≡ true = grind (arith, nat_tests, both.1) in
          let low : ltb k (suc r) ≡ true = grind (arith, nat_tests, both.1) in
          ap (λ b. cond b (Some row) (get held k)) here ∙ sym (ap (λ b. cond b (get rows k) None) low ∙ ap (get rows) both.1 ∙ there)
      | inr other ↦
          let away : eq_by_cmp nat_cmp k r ≡ false = grind (arith, nat_tests, other.0) in
          ap (λ b. cond b (Some row) (get held k)) away ∙ below k ∙ apart other.0 (ltb k n) refl
    ]
  where
    late : (k == r) ≡ false → ltb k n ≡ false → (b : Bool) → ltb k (suc r) ≡ b → None ≡ cond b (get rows k) None
    late other high false behind = refl
    late other high true early = sym (get-entries rows k ∙ first.between k (grind (arith, nat_tests, high)) (grind (arith, nat_tests, early, other)))

    apart : (k == r) ≡ false → (b : Bool) → ltb k n ≡ b → cond b (get rows k) None ≡ cond (ltb k (suc r)) (get rows k) None
    apart other true low =
        let early : ltb k (suc r) ≡ true = (let a = first.above in grind (arith, nat_tests, a, low)) in
        sym (ap (λ b. cond b (get rows k) None) early)
    apart other false high = late other high (ltb k (suc r)) refl

pub one_more : (rows held : Rows) (after : Option RowNo) (r : RowNo) (row : List Value) → Some r ≡ next_in rows after → row_in rows r.0 ≡ Some row → AreBelow rows (start after) held → AreBelow rows (suc r.0) (insert held r.0 row)
unfolding next_in row_in
one_more rows held after r row next there below =
    one_above rows held (start after) r.0 row (first_tells (start after) r (entries rows) (entries_sorted rows) (sym next)) there below

all_below : (rows held : Rows) (n : ℕ) → first_number (from_number n (entries rows)) ≡ None → AreBelow rows n held → held ≡ rows
all_below rows held n none below = same_map nat_cmp_total nat_cmp-IsAntisymmetric held rows (λ k. below k ∙ by k (ltb k n) refl)
  where
    by : (k : ℕ) (b : Bool) → ltb k n ≡ b → cond b (get rows k) None ≡ get rows k
    by k true low = refl
    by k false high = sym (get-entries rows k ∙ none_tells n (entries rows) none k (grind (arith, nat_tests, high)))

pub all_read : (rows held : Rows) (after : Option RowNo) → None ≡ next_in rows after → AreBelow rows (start after) held → held ≡ rows
unfolding next_in
all_read rows held after none below = all_below rows held (start after) (sym none) below

-- ---- one table after another

-- the rows of each of these tables are held
abbrev pub AreHeld : Maps → List TableNo → List TableRows → Type 0
AreHeld maps tables held = (table : ℕ) → is_in tables table ≡ true → rows_at held table ≡ maps table

pub none_held : (maps : Maps) (held : List TableRows) → AreHeld maps [] held
none_held maps held table is = absurd (cc)

found_more : (held : List TableRows) (one : TableRows) (table : ℕ) → found_in (held ++ one ∷ []) table ≡ cond (one.table.0 == table) (Some one.rows) (found_in held table)
found_more held one table = fold-append _ None held (one ∷ [])

pub one_held : (maps : Maps) (tables : List TableNo) (held : List TableRows) (one : TableRows) → AreHeld maps tables held → one.rows ≡ maps one.table.0 → AreHeld maps (tables ++ one.table ∷ []) (held ++ one ∷ [])
one_held maps tables held one are is table inside = elim (eqb_tells one.table.0 table) [
  | inl both ↦
      ap (λ (found : Option Rows). unwrap_or found empty) (found_more held one table ∙ ap (λ b. cond b (Some one.rows) (found_in held table)) both.0)
      ∙ is ∙ ap maps both.1
  | inr other ↦
      let m = list_any-append (has_number table) tables (one.table ∷ []) in
      let before : is_in tables table ≡ true = grind (arith, m, other.0, inside) in
      ap (λ (found : Option Rows). unwrap_or found empty) (found_more held one table ∙ ap (λ b. cond b (Some one.rows) (found_in held table)) other.0)
      ∙ are table before
]
