-- The names of sessions, in the order of their numbers.
use Rattle.std.specs.Prelude.{ℕ, ◌-◌, ◌≤◌, List, [], length, slice_index_or}
use Rattle.hs_schema.specs.Catalogue.{Text}

-- a session has this number
abbrev pub IsKnown : List Text → ℕ → Type 0
IsKnown names s = (1 ≤ s) × (s ≤ length names)

abbrev pub name_in : List Text → ℕ → Text
name_in names s = slice_index_or names (s - 1) []
