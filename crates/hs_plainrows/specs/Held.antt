-- The rows of tables that are held.
use Rattle.std.specs.Prelude.{ℕ, Bool, List, Option}
use Rattle.std.specs.BTreeMap.{BTreeMap}
use Rattle.std.specs.FinMap.{empty}
use Rattle.std.specs.Map.{lookup}
use Rattle.std.specs.Option.{option_map_or}
use Rattle.std.specs.Ordering.{nat_cmp, is_eq}
use Rattle.hs_values.specs.declared.value.Value.{Value}
use Rattle.hs_index.specs.Table.{Rows}
use Rattle.hs_keyed.specs.Kept.{rows_of}

-- the tables that have rows, by their numbers
abbrev pub Tables : Type 0
Tables = List (ℕ × BTreeMap ℕ (List Value))

abbrev pub is : ℕ → ℕ → Bool
is a b = is_eq (nat_cmp a b)

abbrev pub rows_among : Option (BTreeMap ℕ (List Value)) → Rows
rows_among found = option_map_or (λ m. rows_of m.entries) found empty

-- the rows of a table, none where it isn't among these
abbrev pub rows_at : Tables → ℕ → Rows
rows_at tables table = rows_among (lookup (is table) tables)
