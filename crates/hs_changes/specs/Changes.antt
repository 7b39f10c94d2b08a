-- Lists of changes of an open transaction.
use Rattle.std.specs.Prelude.{ℕ, ◌+◌, ◌^◌, Bool, false, ◌&&◌, ◌==◌, List, [], ◌∷◌, ◌++◌, Some, None}
use Rattle.hs_plan.specs.declared.change.Change.{Change}
use Rattle.hs_plan.specs.declared.change.Change.TheVariants as change
use Rattle.hs_changes.specs.Settings.{Maps, Setting, set_rows}

-- the number of the row that the i-th insert of an open transaction makes, i being counted from 1
abbrev pub own_row : ℕ → ℕ
own_row i = 2 ^ 63 + i

-- how many rows a change inserts
abbrev pub count_inserted : Change → ℕ
count_inserted (change.Insert table values) = 1
count_inserted (change.Put table row values) = 0
count_inserted (change.Delete table row) = 0
count_inserted (change.Define definition) = 0

-- the row that a change sets, behind so many inserts. A definition sets none
abbrev pub setting_of : ℕ → Change → List Setting
setting_of inserted (change.Insert table values) = record { table = table.0; row = own_row (inserted + 1); values = Some values } ∷ []
setting_of inserted (change.Put table row values) = record { table = table.0; row = row.0; values = Some values } ∷ []
setting_of inserted (change.Delete table row) = record { table = table.0; row = row.0; values = None } ∷ []
setting_of inserted (change.Define definition) = []

-- how many rows the changes insert
abbrev pub count_all_inserted : List Change → ℕ
count_all_inserted [] = 0
count_all_inserted (c ∷ cs) = count_inserted c + count_all_inserted cs

-- the rows that changes set, behind so many inserts
abbrev pub settings_of : ℕ → List Change → List Setting
settings_of inserted [] = []
settings_of inserted (c ∷ cs) = setting_of inserted c ++ settings_of (inserted + count_inserted c) cs

-- the tables' rows after the changes
abbrev pub after_changes : ℕ → Maps → List Change → Maps
after_changes inserted maps changes = set_rows maps (settings_of inserted changes)

-- a change names this row, so that it puts or deletes it
abbrev pub is_named : ℕ → ℕ → Change → Bool
is_named table row (change.Insert t values) = false
is_named table row (change.Put t r values) = (table == t.0) && (row == r.0)
is_named table row (change.Delete t r) = (table == t.0) && (row == r.0)
is_named table row (change.Define definition) = false
