-- Groups of rows by their first columns, and what is cut from an answer.
use Rattle.std.specs.Prelude.{ℕ, Bool, List, [], ◌∷◌, take, drop, if◌then◌else◌}
use Rattle.std.specs.Ordering.{on, eq_by_cmp}
use Rattle.std.specs.declared.cmp.Ordering.{Ordering}
use Rattle.hs_values.specs.declared.value.Value.{Value}
use Rattle.hs_values.specs.Order.{row_order_of}
use Rattle.hs_values.specs.Sorted.{sorted_by}

-- the order of the first columns alone
abbrev pub key_order : ℕ → List Value → List Value → Ordering
key_order keys = on (take keys) row_order_of

-- the rows in the order of their first columns, those of one group as they stood
abbrev pub grouped : ℕ → List (List Value) → List (List Value)
grouped keys = sorted_by (key_order keys)

-- whether two rows are of one group
abbrev pub same_key : ℕ → List Value → List Value → Bool
same_key keys = eq_by_cmp (key_order keys)

module _ {X : Type 0} (same : X → X → Bool) where
  -- an element in front of runs: in the first of them, where it is the same as the first element there
  abbrev pub in_front : X → List (List X) → List (List X)
  in_front x [] = (x ∷ []) ∷ []
  in_front x ([] ∷ runs) = (x ∷ []) ∷ runs
  in_front x ((y ∷ ys) ∷ runs) = if same x y then (x ∷ y ∷ ys) ∷ runs else (x ∷ []) ∷ (y ∷ ys) ∷ runs

  -- the runs of a list: in each run an element is the same as the one before it
  abbrev pub runs_of : List X → List (List X)
  runs_of [] = []
  runs_of (x ∷ xs) = in_front x (runs_of xs)

-- the groups, in the order of their keys
abbrev pub groups_of : ℕ → List (List Value) → List (List (List Value))
groups_of keys rows = runs_of (same_key keys) (grouped keys rows)

-- at most so many rows, behind the first ones
abbrev pub cut_rows : ℕ → ℕ → List (List Value) → List (List Value)
cut_rows offset limit rows = take limit (drop offset rows)
