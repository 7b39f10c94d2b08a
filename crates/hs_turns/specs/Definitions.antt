-- What a definition makes of rows and of settings. What it makes of the catalogue is `after` of hs_schema.
use Rattle.std.specs.Prelude.{ℕ, ◌==◌, [], ◌∷◌, ◌++◌, map, if◌then◌else◌, unwrap_or}
use Rattle.std.specs.FinMap.{empty, entries, from_entries}
use Rattle.std.specs.Option.{option_map_or}
use Rattle.hs_ast.specs.declared.session.Isolation.{Isolation}
use Rattle.hs_ast.specs.declared.session.TransactionControl.{TransactionControl}
use Rattle.hs_ast.specs.declared.session.TransactionControl.TheVariants as control
use Rattle.hs_claims.specs.declared.model.ControlKind.{ControlKind}
use Rattle.hs_claims.specs.declared.model.ControlKind.TheVariants as kind
use Rattle.hs_plan.specs.declared.definition.Column.{Column}
use Rattle.hs_plan.specs.declared.definition.Definition.{Definition}
use Rattle.hs_plan.specs.declared.definition.Definition.TheVariants as d
use Rattle.hs_values.specs.declared.value.Value.{Value}
use Rattle.hs_values.specs.declared.value.Value.TheVariants as v
use Rattle.hs_index.specs.Table.{Rows}
use Rattle.hs_changes.specs.Settings.{Maps}
use Rattle.hs_schema.specs.Catalogue.{Things, number_of}
use Rattle.hs_sessions.specs.Book.{default_level}

-- a table has these rows
abbrev pub with_rows : ℕ → Rows → Maps → Maps
with_rows table rows maps = λ t. if t == table then rows else maps t

-- every row has one value more, behind its others
abbrev pub lengthened : Value → Rows → Rows
lengthened value rows = from_entries (map (λ e. (e.0, e.1 ++ value ∷ [])) (entries rows))

-- the default of a column, NULL where it has none
abbrev pub default_value : Column → Value
default_value column = unwrap_or column.default v.Null

-- The tables' rows after a definition with this change number. A new table has none, and a dropped one has none any
-- more; each row of a table that gets a column gets its default.
abbrev pub rows_after : Things → Definition → ℕ → Maps → Maps
rows_after things (d.CreateTable storage name columns constraints) number maps = with_rows number empty maps
rows_after things (d.DropTable name) number maps = option_map_or (λ t. with_rows t.0 empty maps) (number_of things name) maps
rows_after things (d.AddColumn table column constraints) number maps =
    option_map_or (λ t. with_rows t.0 (lengthened (default_value column) (maps t.0)) maps) (number_of things table) maps
rows_after things (d.AddConstraint table constraint) number maps = maps
rows_after things (d.DropConstraint table name) number maps = maps
rows_after things (d.CreateIndex table name columns) number maps = maps
rows_after things (d.DropIndex name) number maps = maps
rows_after things (d.SetControl control) number maps = maps
rows_after things (d.SetDefaultLevel serializable) number maps = maps

abbrev pub kind_of : TransactionControl → ControlKind
kind_of control.Locks = kind.Locks
kind_of control.MvLocks = kind.MvLocks
kind_of control.Mvcc = kind.Mvcc

-- the model of transactions after a definition, from that before
abbrev pub control_after : Definition → ControlKind → ControlKind
control_after (d.SetControl control) before = kind_of control
control_after _ before = before

-- the default level after a definition, from that before
abbrev pub level_after : Definition → Isolation → Isolation
level_after (d.SetDefaultLevel serializable) before = default_level serializable
level_after _ before = before
