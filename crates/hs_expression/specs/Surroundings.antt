-- What stands around an expression: rows, and the group of its SELECT.
use Rattle.std.specs.Prelude.{ℕ, zero, suc, List, [], ◌∷◌, Option, Some, None, Result, slice_get}
use Rattle.hs_values.specs.declared.fault.EvalFault.{EvalFault}
use Rattle.hs_values.specs.declared.value.Value.{Value}
use Rattle.hs_values.specs.declared.value.Value.TheVariants as v
use Rattle.hs_expression.specs.Numbers.{Outcome}
use Rattle.hs_expression.specs.declared.around.Around.{Around, Nothing, Row'}
use Rattle.hs_expression.specs.declared.place.Place.{Place}
use Rattle.hs_expression.specs.declared.row_ref.RowRef.{RowRef}
use Rattle.hs_expression.specs.declared.row_ref.RowRef.TheVariants.{Held}

abbrev pub Rows : Type 0
Rows = List (List Value)

pub record Surroundings : Type 0 where
  -- the rows of the SELECTs around, from the inside outward
  pub rows : Rows
  -- the rows of the group of the innermost SELECT
  pub group : Rows

-- what an expression gives, in each surroundings
abbrev pub Valued : Type 0
Valued = Surroundings → Outcome

-- what a query gives, in the rows of the SELECTs around it
abbrev pub Answered : Type 0
Answered = Rows → Result Rows EvalFault

abbrev pub or_null : Option Value → Value
or_null (Some a) = a
or_null None = v.Null

-- the value at a place of the row that is so many SELECTs outward, or NULL where there is none
abbrev pub column : Rows → ℕ → ℕ → Value
column [] outward at = v.Null
column (row ∷ outer) zero at = or_null (slice_get row at)
column (row ∷ outer) (suc n) at = column outer n at

-- the rows around the innermost SELECT
abbrev pub outside : Rows → Rows
outside [] = []
outside (row ∷ outer) = outer

-- the same surroundings at a row of the group
abbrev pub at_row : Surroundings → List Value → Surroundings
at_row s row = record { rows = row ∷ outside s.rows; group = [] }

-- ---- what the types of the code show

abbrev pub row_seen : RowRef → List Value
row_seen (Held row) = row.now

abbrev pub rows_around : Around → Rows
rows_around Nothing = []
rows_around (Row' row p outer) = row_seen row ∷ rows_around outer

abbrev pub surroundings_of : Place → Surroundings
surroundings_of place = record { rows = rows_around place.around.now; group = place.group.now }
