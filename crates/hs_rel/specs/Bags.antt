-- Bags of rows in which equal rows are one. NULLs are equal here.
use Rattle.std.specs.Prelude.{Bool, not, List, [], ◌∷◌, ◌++◌, filter, if◌then◌else◌}
use Rattle.std.specs.List.{list_any}
use Rattle.std.specs.Ordering.{eq_by_cmp}
use Rattle.hs_values.specs.declared.value.Value.{Value}
use Rattle.hs_values.specs.Order.{row_order_of}
use Rattle.hs_values.specs.Sorted.{sorted_rows}

abbrev pub same_row : List Value → List Value → Bool
same_row = eq_by_cmp row_order_of

-- whether a list has a row that is equal to this one
abbrev pub is_among : List (List Value) → List Value → Bool
is_among rows row = list_any (same_row row) rows

module _ {X : Type 0} (same : X → X → Bool) where
  -- of elements that are the same the first
  abbrev pub first_of_each : List X → List X
  first_of_each [] = []
  first_of_each (x ∷ xs) = x ∷ filter (λ y. not (same x y)) (first_of_each xs)

-- one of equal rows each, in ascending order
abbrev pub distinct_rows : List (List Value) → List (List Value)
distinct_rows rows = sorted_rows (first_of_each same_row rows)

-- the rows of both sides, one of equal rows each unless all are wanted
abbrev pub united : Bool → List (List Value) → List (List Value) → List (List Value)
united all left right = if all then left ++ right else distinct_rows (left ++ right)

-- whether it has one, or whether it has none
abbrev pub is_wanted : Bool → List (List Value) → List Value → Bool
is_wanted among rows row = if among then is_among rows row else not (is_among rows row)

-- the left rows that are among the right ones, one of equal rows each
abbrev pub intersected : List (List Value) → List (List Value) → List (List Value)
intersected left right = filter (is_among right) (distinct_rows left)

-- the left rows that aren't among the right ones, one of equal rows each
abbrev pub excepted : List (List Value) → List (List Value) → List (List Value)
excepted left right = filter (λ row. not (is_among right row)) (distinct_rows left)
