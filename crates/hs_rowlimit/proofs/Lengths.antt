-- A row and its columns, column by column.
use Rattle.std.proofs.Common.{◌≡◌, ℕ, zero, suc, ◌+◌, ◌-◌, ◌^◌, ◌<◌, ◌≤◌, min, List, [], ◌∷◌, length, drop, get_or, refl, sym, ap, ◌∙◌, arith}
use Rattle.std.proofs.Math.ListN.{get_or-map}
use Rattle.std.proofs.lemmas.List.{length-map}
use Rattle.hs_plan.specs.declared.definition.Column.{Column}
use Rattle.hs_rowcodec.specs.Encoding.{value_bytes, row_bytes}
use Rattle.hs_rowcodec.proofs.Columns.{column_counted}
use Rattle.hs_values.specs.declared.sql_type.SqlType.{SqlType}
use Rattle.hs_values.specs.declared.value.Value.{Value}
use Rattle.hs_rowlimit.specs.Long.{types_of}

type_at : (columns : List Column) (i : ℕ) (d : Column) → get_or (types_of columns) i d.data_type ≡ (get_or columns i d).data_type
type_at columns i d = get_or-map (λ (c : Column). c.data_type) columns i d

as_many : (columns : List Column) → length (types_of columns) ≡ length columns
as_many columns = length-map columns (λ (c : Column). c.data_type)

-- one column more is counted, up to a limit
pub column_more : (columns : List Column) (row : List Value) (i : ℕ) (d : Column) (value : Value) (len more total new : ℕ) → i < length columns → i < length row → value ≡ get_or row i value → more ≡ min (length (value_bytes (get_or columns i d).data_type value)) (2 ^ 64 - 1) → new ≡ min (len + more) (2 ^ 64 - 1)
    → (min (len + length (row_bytes (drop i (types_of columns)) (drop i row))) (2 ^ 64 - 1) ≡ total) × (len ≤ 2 ^ 64 - 1) → (min (new + length (row_bytes (drop (i + 1) (types_of columns)) (drop (i + 1) row))) (2 ^ 64 - 1) ≡ total) × (new ≤ 2 ^ 64 - 1)
column_more columns row i d value len more total new within there is counts now so_far =
    let size : length (value_bytes (get_or columns i d).data_type value) ≡ length (value_bytes (get_or (types_of columns) i d.data_type) value) = ap (λ (t : SqlType). length (value_bytes t value)) (sym (type_at columns i d)) in
    let whole = column_counted (types_of columns) row i d.data_type value (length (value_bytes (get_or columns i d).data_type value)) (omega (arith, as_many columns)) there is size in
    (omega (arith, so_far.0, so_far.1, whole, now, counts), omega (arith, now))

no_values : (types : List SqlType) → row_bytes types [] ≡ []
no_values [] = refl
no_values (t ∷ types) = refl

none_behind : {A : Type 0} (xs : List A) (i : ℕ) → length xs ≤ i → drop i xs ≡ []
none_behind [] zero end = refl
none_behind [] (suc i) end = refl
none_behind (x ∷ xs) zero end = absurd (omega (arith, end))
none_behind (x ∷ xs) (suc i) end = none_behind xs i (omega (arith, end))

-- the row has no more values
pub row_ended : (columns : List Column) (row : List Value) (i len total : ℕ) → length row ≤ i → (min (len + length (row_bytes (drop i (types_of columns)) (drop i row))) (2 ^ 64 - 1) ≡ total) × (len ≤ 2 ^ 64 - 1) → len ≡ total
row_ended columns row i len total end so_far =
    let none : length (row_bytes (drop i (types_of columns)) (drop i row)) ≡ 0 = ap (λ (vs : List Value). length (row_bytes (drop i (types_of columns)) vs)) (none_behind row i end) ∙ ap length (no_values (drop i (types_of columns))) in
    omega (arith, so_far.0, so_far.1, none)

-- there is no more column
pub columns_ended : (columns : List Column) (row : List Value) (i len total : ℕ) → length columns ≤ i → (min (len + length (row_bytes (drop i (types_of columns)) (drop i row))) (2 ^ 64 - 1) ≡ total) × (len ≤ 2 ^ 64 - 1) → len ≡ total
columns_ended columns row i len total end so_far =
    let none : length (row_bytes (drop i (types_of columns)) (drop i row)) ≡ 0 = ap (λ (ts : List SqlType). length (row_bytes ts (drop i row))) (none_behind (types_of columns) i (omega (arith, end, as_many columns))) in
    omega (arith, so_far.0, so_far.1, none)
