-- Rows behind their keys, and rows of FROM so far.
use Rattle.std.specs.Prelude.{Bool, [], ◌∷◌, ◌++◌, Option, None, Some}
use Rattle.hs_plan.specs.declared.query.SortKey.{SortKey, out-SortKey}
use Rattle.hs_expression.specs.Surroundings.{Rows}
use Rattle.hs_answer.specs.From.{empty_row}

-- each row behind its key; one that has none stands alone
abbrev pub behind_each : Rows → Rows → Rows
behind_each keys [] = []
behind_each [] (row ∷ rows) = row ∷ behind_each [] rows
behind_each (key ∷ keys) (row ∷ rows) = (key ++ row) ∷ behind_each keys rows

-- the rows, or the one row without columns where there are none yet
abbrev pub rows_or_one : Option Rows → Rows
rows_or_one None = empty_row
rows_or_one (Some rows) = rows

-- a key of ORDER BY is descending
abbrev pub descends : SortKey → Bool
descends by = (out-SortKey by).descending
