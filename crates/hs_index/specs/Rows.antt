-- The rows of each key.
use Rattle.std.specs.Prelude.{◌≡◌, List, [], Option, unwrap_or, if◌then◌else◌}
use Rattle.std.specs.Map.{lookup}
use Rattle.hs_base.specs.declared.numbers.RowNo.{RowNo}
use Rattle.hs_values.specs.declared.value.Value.{Value}
use Rattle.hs_index.specs.Keys.{same_key}
use Rattle.hs_index.specs.RowSets.{with_row, without_row}

-- keys with their rows
abbrev pub Keyed : Type 0
Keyed = List (List Value × List RowNo)

-- the list of a key, where it is among the keys
abbrev pub list_of : Keyed → List Value → Option (List RowNo)
list_of keyed key = lookup (same_key key) keyed

-- the rows of a key, none where it isn't among the keys
abbrev pub rows_with : Keyed → List Value → List RowNo
rows_with keyed key = unwrap_or (list_of keyed key) []

-- one row more is under a key, and all else is as it was
abbrev pub Puts : Keyed → Keyed → List Value → RowNo → Type 0
Puts old new key row = (k : List Value) → rows_with new k ≡ (if same_key key k then with_row row (rows_with old k) else rows_with old k)

-- a row isn't under a key any more, and all else is as it was
abbrev pub Takes : Keyed → Keyed → List Value → RowNo → Type 0
Takes old new key row = (k : List Value) → rows_with new k ≡ (if same_key key k then without_row row (rows_with old k) else rows_with old k)

-- a row is in the place of another under a key, and all else is as it was
abbrev pub Exchanges : Keyed → Keyed → List Value → RowNo → RowNo → Type 0
Exchanges old new key from to = (k : List Value) → rows_with new k ≡ (if same_key key k then with_row to (without_row from (rows_with old k)) else rows_with old k)
