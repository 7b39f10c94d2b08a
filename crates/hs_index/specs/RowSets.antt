-- Sets of rows of one table, as lists in ascending order.
use Rattle.std.specs.Prelude.{Bool, List}
use Rattle.std.specs.BTreeSet.{insert_key}
use Rattle.std.specs.List.{list_any}
use Rattle.std.specs.List.Sorted.{IsStrictlySortedBy}
use Rattle.std.specs.Ordering.{nat_cmp, eq_by_cmp}
use Rattle.std.specs.Set.{remove_key}
use Rattle.std.specs.declared.cmp.Ordering.{Ordering}
use Rattle.hs_base.specs.declared.numbers.RowNo.{RowNo}

-- rows by their numbers
abbrev pub row_cmp : RowNo → RowNo → Ordering
row_cmp a b = nat_cmp a.0 b.0

-- each row is below those behind it
abbrev pub IsAscending : List RowNo → Type 0
IsAscending = IsStrictlySortedBy row_cmp

abbrev pub is_row : RowNo → RowNo → Bool
is_row = eq_by_cmp row_cmp

-- a set has a row
abbrev pub has_row : List RowNo → RowNo → Bool
has_row rows row = list_any (is_row row) rows

-- a set and one row more
abbrev pub with_row : RowNo → List RowNo → List RowNo
with_row row rows = insert_key row_cmp rows row

-- a set but for one row
abbrev pub without_row : RowNo → List RowNo → List RowNo
without_row row rows = remove_key (is_row row) rows
