-- Rows that grow by a column, each as far as it has no fault.
use Rattle.std.specs.Prelude.{ℕ, zero, suc, List, [], ◌∷◌, ◌++◌, map, slice_get, Result, Ok}
use Rattle.hs_values.specs.declared.fault.EvalFault.{EvalFault}
use Rattle.hs_values.specs.declared.value.Value.{Value}
use Rattle.hs_values.specs.Outcome.{◌>>=◌}
use Rattle.hs_plan.specs.declared.kind.Kind.{Kind}
use Rattle.hs_expression.specs.Surroundings.{Rows, or_null}
use Rattle.hs_expression.specs.Kinds.{given_at}
use Rattle.hs_expression.specs.Numbers.{Outcome}

-- a row with one value more. Its first fault is that of all
abbrev pub with_value : Result (List Value) EvalFault → Outcome → Result (List Value) EvalFault
with_value row outcome = row >>= λ values. outcome >>= λ x. Ok (values ++ x ∷ [])

-- each row with its value of a column. A row for which there is none stays
abbrev pub with_column : List (Result (List Value) EvalFault) → List Outcome → List (Result (List Value) EvalFault)
with_column [] column = []
with_column (row ∷ rows) [] = row ∷ with_column rows []
with_column (row ∷ rows) (outcome ∷ column) = with_value row outcome ∷ with_column rows column

-- as many rows without columns
abbrev pub no_columns : ℕ → List (Result (List Value) EvalFault)
no_columns zero = []
no_columns (suc n) = Ok [] ∷ no_columns n

-- the column at a place, with NULL where a row has none
abbrev pub column_of : Rows → ℕ → List Outcome
column_of rows at = map (λ row. Ok (or_null (slice_get row at))) rows

-- a value of VALUES at the kind of its column
abbrev pub given_value : Kind → Outcome → Outcome
given_value kind outcome = outcome >>= given_at kind
