-- A row and its columns, column by column.
use Rattle.std.proofs.Common.{◌≡◌, ℕ, ◌+◌, ◌-◌, ◌^◌, ◌<◌, ◌≤◌, min, true, List, length, drop, get_or, sym, ap, ◌∙◌, arith}
use Rattle.std.proofs.Math.ListN.{get_or-map}
use Rattle.std.proofs.lemmas.List.{length-map}
use Rattle.hs_plan.specs.declared.definition.Column.{Column}
use Rattle.hs_rowcodec.specs.Encoding.{value_bytes, row_bytes}
use Rattle.hs_rowcodec.proofs.Columns.{value_fits, row_is_as_long, column_counted}
use Rattle.hs_values.specs.declared.sql_type.SqlType.{SqlType}
use Rattle.hs_values.specs.declared.value.Value.{Value}
use Rattle.hs_values.specs.SqlType.{fits_of, row_fits}
use Rattle.hs_rowtext.specs.Rows.{types_of}

type_at : (columns : List Column) (i : ℕ) (d : Column) → get_or (types_of columns) i d.data_type ≡ (get_or columns i d).data_type
type_at columns i d = get_or-map (λ (c : Column). c.data_type) columns i d

as_many : (columns : List Column) → length (types_of columns) ≡ length columns
as_many columns = length-map columns (λ (c : Column). c.data_type)

pub column_fits : (columns : List Column) (row : List Value) (i : ℕ) (d : Column) (e : Value) → row_fits (types_of columns) row ≡ true → i < length columns → fits_of (get_or columns i d).data_type (get_or row i e) ≡ true
column_fits columns row i d e fits within =
    ap (λ (t : SqlType). fits_of t (get_or row i e)) (sym (type_at columns i d)) ∙ value_fits (types_of columns) row i d.data_type e fits (omega (arith, as_many columns))

-- one column more is counted, up to a limit
pub column_more : (columns : List Column) (row : List Value) (i : ℕ) (d : Column) (value : Value) (len more total new : ℕ) → row_fits (types_of columns) row ≡ true → i < length columns → value ≡ get_or row i value → more ≡ min (length (value_bytes (get_or columns i d).data_type value)) (2 ^ 64 - 1) → new ≡ min (len + more) (2 ^ 64 - 1)
    → (min (len + length (row_bytes (drop i (types_of columns)) (drop i row))) (2 ^ 64 - 1) ≡ total) × (len ≤ 2 ^ 64 - 1) → (min (new + length (row_bytes (drop (i + 1) (types_of columns)) (drop (i + 1) row))) (2 ^ 64 - 1) ≡ total) × (new ≤ 2 ^ 64 - 1)
column_more columns row i d value len more total new fits within is counts now so_far =
    let there : i < length row = omega (arith, as_many columns, row_is_as_long (types_of columns) row fits) in
    let size : length (value_bytes (get_or columns i d).data_type value) ≡ length (value_bytes (get_or (types_of columns) i d.data_type) value) = ap (λ (t : SqlType). length (value_bytes t value)) (sym (type_at columns i d)) in
    let whole = column_counted (types_of columns) row i d.data_type value (length (value_bytes (get_or columns i d).data_type value)) (omega (arith, as_many columns)) there is size in
    (omega (arith, so_far.0, so_far.1, whole, now, counts), omega (arith, now))
