-- Keys: the values that a row has in some columns.
use Rattle.std.specs.Prelude.{ℕ, Bool, true, false, List, map, slice_index_or}
use Rattle.std.specs.List.{list_any}
use Rattle.std.specs.Ordering.{eq_by_cmp}
use Rattle.hs_values.specs.declared.value.Value.{Value}
use Rattle.hs_values.specs.declared.value.Value.TheVariants as v
use Rattle.hs_values.specs.Order.{row_order_of}

-- the value in a column, and NULL where there is no such column
abbrev pub value_at : List Value → ℕ → Value
value_at row column = slice_index_or row column v.Null

-- the values in these columns
abbrev pub key_in : List ℕ → List Value → List Value
key_in columns row = map (value_at row) columns

abbrev pub is_null : Value → Bool
is_null v.Null = true
is_null a = false

-- one of a key's values is NULL
abbrev pub has_null : List Value → Bool
has_null = list_any is_null

-- two keys are equal, as 1 and 1.00 are
abbrev pub same_key : List Value → List Value → Bool
same_key = eq_by_cmp row_order_of
