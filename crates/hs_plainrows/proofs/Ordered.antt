-- The rows of a table by their numbers, and those of all tables where one table has other rows.
use Rattle.std.proofs.Common.{◌≡◌, ℕ, Bool, true, false, ◌==◌, cond, if◌then◌else◌, List, [], Option, Some, None, refl, sym, ap, ◌∙◌}
use Rattle.std.proofs.lemmas.Bool.{eqb-true}
use Rattle.std.specs.BTreeMap.{BTreeMap}
use Rattle.std.specs.Cmp.{nat_cmp_total, eq_by_cmp_equiv}
use Rattle.std.specs.FinMap.{empty, get-empty, remove}
use Rattle.std.specs.List.Sorted.{IsStrictlySortedBy}
use Rattle.std.specs.Map.{lookup}
use Rattle.std.specs.Ordering.{nat_cmp}
use Rattle.hs_base.specs.declared.numbers.RowNo.{RowNo}
use Rattle.hs_values.specs.declared.value.Value.{Value}
use Rattle.hs_index.specs.Table.{Rows}
use Rattle.hs_changes.proofs.Set.{ties_are_equal}
use Rattle.hs_keyed.specs.Kept.{rows_of}
use Rattle.hs_keyed.proofs.Ordered.{next-of}
use Rattle.hs_keyed.proofs.Stored.{Entries, at, entries-rows_of, get-rows_of, remove-none}
use Rattle.hs_rows.specs.Numbers.{next_in, numbers_among, numbers_with, row_in}
use Rattle.hs_plainrows.specs.Held.{Tables, is, rows_among, rows_at}

-- ---- the rows of one table

pub row-of : (es : Entries) (n : ℕ) → at es n ≡ row_in (rows_of es) n
unfolding row_in
row-of es n = sym (get-rows_of es n)

pub no-row : (n : ℕ) → None ≡ row_in empty n
unfolding row_in
no-row n = sym (get-empty nat_cmp n)

pub no-next : (after : Option RowNo) → None ≡ next_in empty after
unfolding IsStrictlySortedBy
no-next after = next-of [] tt after

pub no-numbers : (columns : List ℕ) (key : List Value) → [] ≡ numbers_with columns key empty
unfolding IsStrictlySortedBy
no-numbers columns key = sym (ap (numbers_among columns key) (entries-rows_of [] tt))

-- ---- the rows of all tables

is-turned : (a b : ℕ) → is a b ≡ (b == a)
is-turned a b = (eq_by_cmp_equiv nat_cmp_total).symm a b ∙ ties_are_equal b a

module _ (old new : Tables) (table : ℕ) (here : BTreeMap ℕ (List Value)) (sets : (q : ℕ) → lookup (is q) new ≡ cond (is table q) (Some here) (lookup (is q) old)) where
  pub rows_placed : (f : Rows → Rows) → rows_of here.entries ≡ f (rows_at old table) → (t : ℕ) → rows_at new t ≡ (if t == table then f (rows_at old t) else rows_at old t)
  rows_placed f made t =
      ap rows_among (sets t)
      ∙ ap (λ b. rows_among (cond b (Some here) (lookup (is t) old))) (is-turned table t)
      ∙ by (t == table) refl
    where
      by : (b : Bool) → (t == table) ≡ b → rows_among (cond b (Some here) (lookup (is t) old)) ≡ (if b then f (rows_at old t) else rows_at old t)
      by true same = made ∙ ap (λ n. f (rows_at old n)) (sym (eqb-true t table same))
      by false other = refl

  pub rows_same : rows_of here.entries ≡ rows_at old table → (t : ℕ) → rows_at new t ≡ rows_at old t
  rows_same made t = rows_placed (λ rows. rows) made t ∙ by (t == table)
    where
      by : (b : Bool) → (if b then rows_at old t else rows_at old t) ≡ rows_at old t
      by true = refl
      by false = refl

-- a table without rows loses none
pub rows_none : (tables : Tables) (table row : ℕ) → lookup (is table) tables ≡ None → (t : ℕ) → rows_at tables t ≡ (if t == table then remove (rows_at tables t) row else rows_at tables t)
rows_none tables table row none t = by (t == table) refl
  where
    by : (b : Bool) → (t == table) ≡ b → rows_at tables t ≡ (if b then remove (rows_at tables t) row else rows_at tables t)
    by true same =
        let nothing : rows_at tables t ≡ empty = ap (rows_at tables) (eqb-true t table same) ∙ ap rows_among none in
        nothing ∙ sym (ap (λ rows. remove rows row) nothing ∙ remove-none empty row (get-empty nat_cmp row))
    by false other = refl
