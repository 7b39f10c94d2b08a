-- The rows of a table by their numbers: from a number on, and those that have a key.
use Rattle.std.specs.Prelude.{ℕ, suc, ◌≤◌, Bool, if◌then◌else◌, nat_lt, is_some, List, [], ◌∷◌, filter, map, Option, Some, None, ⊤}
use Rattle.std.specs.FinMap.{entries, get}
use Rattle.std.specs.List.{filter_map}
use Rattle.hs_base.specs.declared.numbers.RowNo.{RowNo}
use Rattle.hs_values.specs.declared.value.Value.{Value}
use Rattle.hs_index.specs.Table.{Rows, has_key}

-- the least number behind a row, or the least of all
abbrev pub start : Option RowNo → ℕ
start None = 0
start (Some row) = suc row.0

abbrev pub from_number : ℕ → List (ℕ × List Value) → List (ℕ × List Value)
from_number n [] = []
from_number n (e ∷ es) = if nat_lt e.0 n then from_number n es else e ∷ es

abbrev pub first_number : List (ℕ × List Value) → Option RowNo
first_number [] = None
first_number (e ∷ es) = Some (record { 0 = e.0 })

-- the row with the least number behind this one
unfoldable pub next_in : Rows → Option RowNo → Option RowNo
next_in rows after = first_number (from_number (start after) (entries rows))

unfoldable pub row_in : Rows → ℕ → Option (List Value)
row_in rows row = get rows row

abbrev pub has_row : Rows → ℕ → Bool
has_row rows row = is_some (row_in rows row)

-- a number is behind that of this row, where there is one
abbrev pub IsBehind : Option RowNo → Option RowNo → Type 0
IsBehind after None = ⊤
IsBehind after (Some row) = start after ≤ row.0

-- the rows from a number on, in the order of their numbers
unfoldable pub rows_from : Rows → ℕ → List (List Value)
rows_from rows n = map (λ e. e.1) (from_number n (entries rows))

-- the rows of these numbers, in this order, without those that aren't there
abbrev pub rows_numbered : Rows → List ℕ → List (List Value)
rows_numbered rows numbers = filter_map (row_in rows) numbers

-- the numbers of those of these rows that have a key
abbrev pub numbers_among : List ℕ → List Value → List (ℕ × List Value) → List ℕ
numbers_among columns key rows = map (λ e. e.0) (filter (λ e. has_key columns key (Some e.1)) rows)

-- the numbers of the rows that have a key, in ascending order
abbrev pub numbers_with : List ℕ → List Value → Rows → List ℕ
numbers_with columns key rows = numbers_among columns key (entries rows)
