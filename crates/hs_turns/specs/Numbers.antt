-- The numbers that the rows of a transaction get at its commit.
use Rattle.std.specs.Prelude.{◌≡◌, ◌⊎◌, ℕ, ◌+◌, ◌-◌, ◌^◌, ◌<◌, ◌≤◌, nat_lt, List, [], ◌∷◌, ◌++◌, map, if◌then◌else◌, slice_index_or}
use Rattle.hs_plan.specs.declared.change.Change.{Change}
use Rattle.hs_plan.specs.declared.change.Change.TheVariants as change
use Rattle.hs_changes.specs.Changes.{own_row, count_inserted}

-- the number of the row that a change with this number inserts
abbrev pub number_in : ℕ → Change → List ℕ
number_in number (change.Insert table values) = number ∷ []
number_in number (change.Put table row values) = []
number_in number (change.Delete table row) = []
number_in number (change.Define definition) = []

-- those of all rows that changes insert, the first change having this number
abbrev pub numbers_from : ℕ → List Change → List ℕ
numbers_from number [] = []
numbers_from number (c ∷ cs) = number_in number c ++ numbers_from (number + 1) cs

-- The number of a row after the commit, from its number in the transaction. The i-th of the rows that the transaction
-- inserted has the number 2^63 + i there (`own_row` of hs_changes), and then the i-th of these. Other rows keep theirs
abbrev pub final_row : List ℕ → ℕ → ℕ
final_row numbers row = if nat_lt (2 ^ 63) row then slice_index_or numbers (row - 2 ^ 63 - 1) row else row

abbrev pub final_change : List ℕ → Change → Change
final_change numbers (change.Insert table values) = change.Insert table values
final_change numbers (change.Put table row values) = change.Put table (record { 0 = final_row numbers row.0 }) values
final_change numbers (change.Delete table row) = change.Delete table (record { 0 = final_row numbers row.0 })
final_change numbers (change.Define definition) = change.Define definition

-- the changes of a transaction as it commits them on a database with so many changes
abbrev pub numbered : ℕ → List Change → List Change
numbered count changes = map (final_change (numbers_from (count + 1) changes)) changes

-- ---- the rows that a transaction knows

-- a row that may have been there after so many changes, or one of the first so many that the transaction inserted
abbrev pub IsKnown : ℕ → ℕ → ℕ → Type 0
IsKnown count inserted row = (row ≤ count) ⊎ ((i : ℕ) × (i < inserted) × (row ≡ own_row (i + 1)))

abbrev pub KnowsRow : ℕ → ℕ → Change → Type 0
KnowsRow count inserted (change.Insert table values) = Unit {0}
KnowsRow count inserted (change.Put table row values) = IsKnown count inserted row.0
KnowsRow count inserted (change.Delete table row) = IsKnown count inserted row.0
KnowsRow count inserted (change.Define definition) = ⊥

-- each change behind so many inserts is of a row that is known there, and none is a definition
abbrev pub NamesKnown : ℕ → ℕ → List Change → Type 0
NamesKnown count inserted [] = Unit {0}
NamesKnown count inserted (c ∷ cs) = KnowsRow count inserted c × NamesKnown count (inserted + count_inserted c) cs
