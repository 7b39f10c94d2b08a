-- Rows in the order of their keys.
use Rattle.std.specs.Prelude.{◌≡◌, List, length, map, Ok}
use Rattle.std.specs.List.{Contains}
use Rattle.std.specs.List.Sorted.{IsPermutation, IsSorted}
use Rattle.hs_values.specs.declared.value.Value.{Value}
use Rattle.std.specs.declared.cmp.Ordering.TheVariants.{Equal}
use Rattle.hs_values.specs.Order.{keyed_order_of, row_order_of}
use Rattle.hs_expression.specs.Surroundings.{Rows}
use Rattle.hs_answer.specs.Groups.{without_keys}
use Rattle.hs_answer.specs.Layers.{Line, SortBy}
use Rattle.hs_answer.specs.Order.{behind_sort_keys, is_descending}
use Rattle.hs_answer.specs.Selects.{rows_of}

-- the rows of these lines behind their keys, in the order of the keys and then of all output columns
pub record IsInOrder (order_by : List SortBy) (lines : List Line) (sorted : Rows) : Type 0 where
  pub same : IsPermutation (rows_of lines) (without_keys (length order_by) sorted)
  pub ascending : IsSorted (keyed_order_of (map is_descending order_by)) sorted
  pub keyed : (row : List Value) → Contains sorted row → (line : Line) × Contains lines line × (behind_sort_keys order_by line ≡ Ok row)

-- rows that tie with their keys in front are identical, as those of columns of one kind each are
abbrev pub TiesAreIdentical : List SortBy → List Line → Type 0
TiesAreIdentical order_by lines = (one other : Line) (a b : List Value) → Contains lines one → Contains lines other → behind_sort_keys order_by one ≡ Ok a → behind_sort_keys order_by other ≡ Ok b → row_order_of a b ≡ Equal → a ≡ b
