-- GROUP BY, and the groups where rows are grouped without it.
use Rattle.std.specs.Prelude.{ℕ, Bool, true, false, List, [], ◌∷◌, ◌++◌, length, drop, map, Result, Ok}
use Rattle.hs_values.specs.declared.fault.EvalFault.{EvalFault}
use Rattle.hs_values.specs.declared.value.Value.{Value}
use Rattle.hs_values.specs.Outcome.{◌>>=◌}
use Rattle.hs_rel.specs.Groups.{groups_of}
use Rattle.hs_expression.specs.Outcomes.{all_or_least}
use Rattle.hs_expression.specs.Surroundings.{Rows, Surroundings, Valued}
use Rattle.hs_answer.specs.Places.{over_group, over_row, values_at}

-- a row behind the values that GROUP BY has of it
abbrev pub behind_keys : Rows → List Valued → List Value → Result (List Value) EvalFault
behind_keys outer group_by row = values_at group_by (over_row outer row) >>= λ keys. Ok (keys ++ row)

abbrev pub without_keys : ℕ → Rows → Rows
without_keys keys rows = map (drop keys) rows

-- the rows that are equal in their first columns, without these
abbrev pub parted : ℕ → Rows → List Rows
parted keys rows = map (without_keys keys) (groups_of keys rows)

-- the groups: rows for which GROUP BY has equal values, where NULLs are equal. Without GROUP BY all rows are one group, also
-- where there are none
abbrev pub groups_by : Rows → List Valued → Rows → Result (List Rows) EvalFault
groups_by outer [] rows = Ok (rows ∷ [])
groups_by outer (key ∷ keys) rows = all_or_least (map (behind_keys outer (key ∷ keys)) rows) >>= λ keyed. Ok (parted (length (key ∷ keys)) keyed)

-- where HAVING and the items are evaluated: at each group where rows are grouped, else at each row
abbrev pub places_of : Bool → Rows → List Valued → Rows → Result (List Surroundings) EvalFault
places_of false outer group_by rows = Ok (map (over_row outer) rows)
places_of true outer group_by rows = groups_by outer group_by rows >>= λ groups. Ok (map (over_group outer) groups)
