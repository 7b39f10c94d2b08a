-- What the rows of a table keep beside them, for look-ups.
use Rattle.std.specs.Prelude.{ℕ, List}
use Rattle.std.specs.FinMap.{from_entries, get, insert, remove}
use Rattle.std.specs.List.{All}
use Rattle.std.specs.Option.{option_map_or}
use Rattle.hs_values.specs.declared.value.Value.{Value}
use Rattle.hs_index.specs.Table.{Rows, IsIndexOf}
use Rattle.hs_keyed.specs.declared.indexes.KeyIndex.{KeyIndex}

-- the rows of these numbers
abbrev pub rows_of : List (ℕ × List Value) → Rows
rows_of = from_entries

-- the rows where one has another number, where it is there
abbrev pub moved : Rows → ℕ → ℕ → Rows
moved rows from to = option_map_or (λ values. insert (remove rows from) to values) (get rows from) rows

abbrev pub IsOf : Rows → KeyIndex → Type 0
IsOf rows each = IsIndexOf each.columns rows each.index

-- each of them is the index of these rows over its columns
abbrev pub AreOf : Rows → List KeyIndex → Type 0
AreOf rows indexes = All (IsOf rows) indexes
