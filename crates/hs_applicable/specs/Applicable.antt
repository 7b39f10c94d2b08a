-- Which changes may be made on a database as those of a commit, with the numbers that its rows have behind it.
use Rattle.std.specs.Prelude.{◌&&◌, not, Bool, true, false, List, [], ◌∷◌, is_none, is_some}
use Rattle.std.specs.FinMap.{get}
use Rattle.std.specs.Option.{option_map_or}
use Rattle.hs_base.specs.declared.numbers.RowNo.{RowNo}
use Rattle.hs_base.specs.declared.numbers.TableNo.{TableNo}
use Rattle.hs_changes.specs.Settings.{Maps}
use Rattle.hs_turns.specs.Database.{Database, has_room, make}
use Rattle.hs_language.specs.Definitions.{still_referenced}
use Rattle.hs_language.specs.Validity.{is_long, types_in}
use Rattle.hs_plan.specs.declared.change.Change.{Change}
use Rattle.hs_plan.specs.declared.change.Change.TheVariants as change
use Rattle.hs_plan.specs.declared.definition.Definition.{Definition}
use Rattle.hs_rowtext.specs.Rows.{types_of}
use Rattle.hs_schema.specs.Catalogue.{Things, table_numbered}
use Rattle.hs_values.specs.SqlType.{row_fits}
use Rattle.hs_values.specs.declared.value.Value.{Value}
use Rattle.hs_applicable.specs.Bound.{is_proper}

-- ---- changes of rows

-- the table is there, and the row has one value of each of its columns' types
abbrev pub fits_table : Things → TableNo → List Value → Bool
fits_table things table values = option_map_or (λ t. row_fits (types_of t.columns) values) (table_numbered things table) false

-- nor is its encoding too long
abbrev pub takes_row : Things → TableNo → List Value → Bool
takes_row things table values = fits_table things table values && not (is_long (types_in things table.0) values)

abbrev pub has_row : Maps → TableNo → RowNo → Bool
has_row rows table row = is_some (get (rows table.0) row.0)

-- ---- definitions

-- it is proper, and it drops nothing that a foreign key references
abbrev pub may_define : Things → Definition → Bool
may_define things definition = is_proper things definition && is_none (still_referenced things definition)

-- ---- changes

abbrev pub may_make : Database → Change → Bool
may_make db (change.Insert table values) = takes_row db.things table values
may_make db (change.Put table row values) = has_row db.rows table row && takes_row db.things table values
may_make db (change.Delete table row) = is_some (table_numbered db.things table) && has_row db.rows table row
may_make db (change.Define definition) = may_define db.things definition

-- each over what those before it made
abbrev pub may_make_each : Database → List Change → Bool
may_make_each db [] = true
may_make_each db (c ∷ cs) = may_make db c && may_make_each (make db c) cs

-- and the database has room for them
abbrev pub may_make_all : Database → List Change → Bool
may_make_all db changes = has_room db changes && may_make_each db changes
