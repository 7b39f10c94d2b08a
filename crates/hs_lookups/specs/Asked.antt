-- What a condition asks of the columns of a row.
use Rattle.std.specs.Prelude.{◌≡◌, ℕ, Bool, false, not, ◌&&◌, List, [], ◌∷◌, None, Some, Result, ⊤}
use Rattle.std.specs.Ordering.{eq_by_cmp}
use Rattle.hs_values.specs.declared.fault.EvalFault.{EvalFault}
use Rattle.hs_values.specs.declared.value.Value.{Value}
use Rattle.hs_values.specs.Order.{order_of}
use Rattle.hs_index.specs.Keys.{is_null, value_at}
use Rattle.hs_index.specs.Table.{has_key}
use Rattle.hs_rel.specs.Selection.{Verdict, fault_of, is_true}

-- a condition doesn't choose a row: it is FALSE or unknown for it, and has no fault
pub record IsPassedOver (outcome : Result Value EvalFault) : Type 0 where
  pub no_fault : fault_of outcome ≡ None
  pub not_true : is_true outcome ≡ false

-- two values are equal, of which none is NULL
abbrev pub are_equal : Value → Value → Bool
are_equal a b = eq_by_cmp order_of a b && not (is_null a)

-- a row has this value in a column, and the same one in two columns
abbrev pub has_value : ℕ → Value → List Value → Bool
has_value column value row = are_equal (value_at row column) value

abbrev pub have_one_value : ℕ → ℕ → List Value → Bool
have_one_value one other row = are_equal (value_at row one) (value_at row other)

-- a column has this value in every row that isn't passed over
abbrev pub AsksOne : Verdict → ℕ → Value → Type 0
AsksOne verdict column value = (row : List Value) → are_equal (value_at row column) value ≡ false → IsPassedOver (verdict row)

-- each of these columns has its value in every row that isn't passed over
abbrev pub Asks : Verdict → List ℕ → List Value → Type 0
Asks verdict [] values = ⊤
Asks verdict (column ∷ columns) [] = ⊤
Asks verdict (column ∷ columns) (value ∷ values) =
    AsksOne verdict column value × Asks verdict columns values

-- every row that isn't passed over has this key in these columns
abbrev pub Narrows : Verdict → List ℕ → List Value → Type 0
Narrows verdict columns key = (row : List Value) → has_key columns key (Some row) ≡ false → IsPassedOver (verdict row)

-- two columns are equal in every row that isn't passed over
abbrev pub Pairs : Verdict → ℕ → ℕ → Type 0
Pairs verdict one other = (row : List Value) → are_equal (value_at row one) (value_at row other) ≡ false → IsPassedOver (verdict row)
