-- Where the expressions of a query are evaluated, and what several of them give there.
use Rattle.std.specs.Prelude.{List, [], ◌∷◌, Result, Ok}
use Rattle.hs_values.specs.declared.fault.EvalFault.{EvalFault}
use Rattle.hs_values.specs.declared.value.Value.{Value}
use Rattle.hs_values.specs.Outcome.{◌>>=◌}
use Rattle.hs_rel.specs.Selection.{Verdict}
use Rattle.hs_expression.specs.Surroundings.{Rows, Surroundings, Valued}

-- over rows, without a group: VALUES and keys of ORDER BY
abbrev pub in_rows : Rows → Surroundings
in_rows rows = record { rows = rows; group = [] }

-- over a row of FROM: ON, WHERE, GROUP BY, and the items where nothing is grouped
abbrev pub over_row : Rows → List Value → Surroundings
over_row outer row = in_rows (row ∷ outer)

-- the row that stands for a group, which has no columns where the group has no rows
abbrev pub first_row : Rows → List Value
first_row [] = []
first_row (row ∷ rows) = row

-- over a group: HAVING, and the items of grouped rows
abbrev pub over_group : Rows → Rows → Surroundings
over_group outer group = record { rows = first_row group ∷ outer; group = group }

-- what an expression gives of each row of FROM
abbrev pub value_over : Valued → Rows → Verdict
value_over a outer row = a (over_row outer row)

-- what several expressions give: each is evaluated before the next, and the first fault is that of all
abbrev pub values_at : List Valued → Surroundings → Result (List Value) EvalFault
values_at [] s = Ok []
values_at (a ∷ more) s = a s >>= λ x. values_at more s >>= λ xs. Ok (x ∷ xs)
