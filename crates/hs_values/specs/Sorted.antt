-- A list in order, ties as they stood.
use Rattle.std.specs.Prelude.{Bool, List, [], ◌∷◌, if◌then◌else◌}
use Rattle.std.specs.Ordering.{is_lt}
use Rattle.std.specs.declared.cmp.Ordering.{Ordering}
use Rattle.hs_values.specs.declared.value.Value.{Value}
use Rattle.hs_values.specs.Order.{keyed_order_of}

module _ {X : Type 0} (cmp : X → X → Ordering) where
  -- x in a list in order, in front of the first element that is not below it
  abbrev pub placed : X → List X → List X
  placed x [] = x ∷ []
  placed x (y ∷ ys) = if is_lt (cmp y x) then y ∷ placed x ys else x ∷ y ∷ ys

  -- the elements in ascending order, equal ones as they stood
  abbrev pub sorted_by : List X → List X
  sorted_by [] = []
  sorted_by (x ∷ xs) = placed x (sorted_by xs)

-- the rows in the order of their first columns, each descending where its flag is true, and then of all further columns
abbrev pub keyed_rows : List Bool → List (List Value) → List (List Value)
keyed_rows flags = sorted_by (keyed_order_of flags)

-- the rows in ascending order of all columns from the left
abbrev pub sorted_rows : List (List Value) → List (List Value)
sorted_rows = keyed_rows []
