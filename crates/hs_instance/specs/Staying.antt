-- Changes of a transaction that stay on the rows at its commit.
use Rattle.std.specs.Prelude.{ℕ, ◌==◌, Bool, true, false, List, if◌then◌else◌}
use Rattle.std.specs.List.{list_all}
use Rattle.hs_changes.specs.Settings.{Maps}
use Rattle.hs_keyed.specs.Kept.{moved}
use Rattle.hs_plan.specs.declared.change.Change.{Change}
use Rattle.hs_plan.specs.declared.change.Change.TheVariants as change

-- it inserts a row
abbrev pub is_insert : Change → Bool
is_insert (change.Insert table values) = true
is_insert (change.Put table row values) = false
is_insert (change.Delete table row) = false
is_insert (change.Define definition) = false

abbrev pub are_inserts : List Change → Bool
are_inserts = list_all is_insert

-- the rows where the one that a change inserted has another number
abbrev pub settled_by : ℕ → ℕ → Change → Maps → Maps
settled_by from to (change.Insert table values) maps = λ t. if t == table.0 then moved (maps t) from to else maps t
settled_by from to (change.Put table row values) maps = maps
settled_by from to (change.Delete table row) maps = maps
settled_by from to (change.Define definition) maps = maps
