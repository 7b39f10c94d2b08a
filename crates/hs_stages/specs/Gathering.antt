-- What a part gives, one row after another: the rows so far, and the least fault so far.
use Rattle.std.specs.Prelude.{ℕ, List, [], ◌∷◌, ◌++◌, ◌==◌, fold, length, None, Result, Ok, Err, if◌then◌else◌}
use Rattle.hs_values.specs.declared.fault.EvalFault.{EvalFault}
use Rattle.hs_values.specs.declared.value.Value.{Value}
use Rattle.hs_rel.specs.Join.{padded, pairs_of}
use Rattle.hs_rel.specs.Selection.{Verdict, is_true, lesser_of}
use Rattle.hs_stages.specs.declared.gathered.Gathered.{Gathered}

abbrev pub nothing : Gathered
nothing = record { rows = []; fault = None }

-- one row more, or one fault more
abbrev pub with_outcome : Gathered → Result (List Value) EvalFault → Gathered
with_outcome so_far (Ok row) = record so_far { rows = so_far.rows ++ row ∷ [] }
with_outcome so_far (Err fault) = record so_far { fault = lesser_of so_far.fault fault }

-- a row is kept where a condition is TRUE of it
abbrev pub with_verdict : Gathered → List Value → Result Value EvalFault → Gathered
with_verdict so_far row (Ok value) = if is_true (Ok value) then record so_far { rows = so_far.rows ++ row ∷ [] } else so_far
with_verdict so_far row (Err fault) = record so_far { fault = lesser_of so_far.fault fault }

abbrev pub judged : Verdict → Gathered → List Value → Gathered
judged verdict so_far row = with_verdict so_far row (verdict row)

-- ---- joins, one left row after another

-- the pairs of a left row
abbrev pub with_pairs : Verdict → List (List Value) → Gathered → List Value → Gathered
with_pairs verdict right so_far left = fold (judged verdict) so_far (pairs_of right left)

-- the left row with NULLs, where there are still so many rows
abbrev pub with_padded : ℕ → ℕ → List Value → Gathered → Gathered
with_padded before width left so_far = if length so_far.rows == before then record so_far { rows = so_far.rows ++ padded width left ∷ [] } else so_far

-- the pairs of a left row, or it with NULLs where none of them is kept
abbrev pub with_left : Verdict → ℕ → List (List Value) → Gathered → List Value → Gathered
with_left verdict width right so_far left = with_padded (length so_far.rows) width left (with_pairs verdict right so_far left)
