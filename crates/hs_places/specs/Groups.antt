-- Groups by their numbers.
use Rattle.std.specs.Prelude.{ℕ, List, [], slice_get, unwrap_or}
use Rattle.hs_expression.specs.Surroundings.{Rows}

-- the rows of a group, and none where there is no such group
abbrev pub group_at : List Rows → ℕ → Rows
group_at groups at = unwrap_or (slice_get groups at) []
