-- Tables of a catalogue by their names.
use Rattle.std.specs.Prelude.{◌≡◌, ℕ, true, List, [], is_some}
use Rattle.std.specs.Option.{option_map_or}
use Rattle.hs_plan.specs.declared.definition.Column.{Column}
use Rattle.hs_schema.specs.Catalogue.{Things, table_named}

-- the catalogue has a table of this name
abbrev pub IsTable : Things → List ℕ → Type 0
IsTable things name = is_some (table_named things name) ≡ true

-- its columns, and none where there is no such table
abbrev pub columns_of : Things → List ℕ → List Column
columns_of things name = option_map_or (λ t. t.columns) (table_named things name) []
