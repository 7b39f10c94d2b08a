-- The index of a table.
use Rattle.std.specs.Prelude.{◌≡◌, ℕ, Bool, false, not, ◌&&◌, List, Option, None, Some}
use Rattle.std.specs.FinMap.{FinMap, get}
use Rattle.std.specs.Ordering.{nat_cmp}
use Rattle.hs_base.specs.declared.numbers.RowNo.{RowNo}
use Rattle.hs_values.specs.declared.value.Value.{Value}
use Rattle.hs_index.specs.Keys.{key_in, has_null, same_key}
use Rattle.hs_index.specs.RowSets.{has_row}
use Rattle.hs_index.specs.Rows.{Keyed, rows_with}

-- a table's rows by their numbers
abbrev pub Rows : Type 0
Rows = FinMap nat_cmp (List Value)

-- a row that is there has this key in these columns. A key with a NULL is no key
abbrev pub has_key : List ℕ → List Value → Option (List Value) → Bool
has_key columns key None = false
has_key columns key (Some row) = same_key key (key_in columns row) && not (has_null key)

-- under each key are exactly the rows that have it
abbrev pub IsIndexOf : List ℕ → Rows → Keyed → Type 0
IsIndexOf columns table keyed = (key : List Value) (row : RowNo) → has_row (rows_with keyed key) row ≡ has_key columns key (get table row.0)
