-- What an index keeps.
use Rattle.std.specs.Prelude.{◌≡◌, List, [], Some}
use Rattle.hs_values.specs.declared.value.Value.{Value}
use Rattle.hs_index.specs.RowSets.{IsAscending}
use Rattle.hs_index.specs.Rows.{Keyed, list_of, rows_with}

-- the rows of each key ascend, and a key without rows isn't kept
pub record IsKept (keyed : Keyed) : Type 0 where
  pub ascending : (key : List Value) → IsAscending (rows_with keyed key)
  pub used : (key : List Value) → list_of keyed key ≡ Some [] → ⊥
