-- The foreign keys of a catalogue, each with all that its actions need.
use Rattle.std.specs.Prelude.{ℕ, ◌≡◌, List, [], ◌∷◌, map, find, slice_get, Option, None, Some}
use Rattle.std.specs.List.{flat_map}
use Rattle.std.specs.Option.{option_map_or, unwrap_or}
use Rattle.std.specs.Str.{bytes_eq}
use Rattle.hs_base.specs.declared.numbers.TableNo.{TableNo}
use Rattle.hs_plan.specs.declared.definition.Column.{Column}
use Rattle.hs_plan.specs.declared.definition.Constraint.{Constraint}
use Rattle.hs_plan.specs.declared.definition.ForeignKey.{ForeignKey}
use Rattle.hs_plan.specs.declared.definition.Rule.{Rule}
use Rattle.hs_plan.specs.declared.definition.Rule.TheVariants as rule
use Rattle.hs_values.specs.declared.sql_type.SqlType.{SqlType}
use Rattle.hs_values.specs.declared.sql_type.SqlType.TheVariants as sql
use Rattle.hs_schema.specs.Catalogue.{Things, Text, children_of, order_of, table_named, table_numbered}
use Rattle.hs_schema.specs.declared.table.Child.{Child}
use Rattle.hs_schema.specs.declared.table.Table.{Table}
use Rattle.hs_actions.specs.declared.reference.Reference.{Reference}
use Rattle.hs_actions.specs.Referencing.{Keys, keys_on}
use Rattle.hs_tentative.specs.NewRows.{default_of}

abbrev pub type_in : Option Column → SqlType
type_in None = sql.Big
type_in (Some column) = column.data_type

-- the type of a column, BIGINT where there is no such column
abbrev pub type_of : List Column → ℕ → SqlType
type_of columns place = type_in (slice_get columns place)

-- ---- one foreign key

-- its place among the constraints and indexes of all tables, in the order of creation
abbrev pub place_of : Things → Text → ℕ
place_of things name = unwrap_or (order_of things name) 0

-- a foreign key of a table that references another one
abbrev pub reference_of : Things → Table → TableNo → Text → ForeignKey → Reference
reference_of things table parent name key = record {
  place = place_of things name;
  child = table.number;
  columns = key.columns;
  types = map (type_of table.columns) key.columns;
  defaults = map (default_of table.columns) key.columns;
  parent = parent;
  parent_columns = key.parent_columns;
  on_delete = key.on_delete;
  on_update = key.on_update;
}

-- ---- the foreign keys that reference a table

abbrev pub by_rule : Things → Table → TableNo → Text → Rule → List Reference
by_rule things table parent name (rule.ForeignKey key) = reference_of things table parent name key ∷ []
by_rule things table parent name (rule.NotNull column) = []
by_rule things table parent name (rule.PrimaryKey columns) = []
by_rule things table parent name (rule.Unique columns) = []
by_rule things table parent name (rule.Check condition) = []
by_rule things table parent name (rule.Index columns) = []

abbrev pub by_constraint : Things → Table → TableNo → Option Constraint → List Reference
by_constraint things table parent None = []
by_constraint things table parent (Some c) = by_rule things table parent c.name c.rule

abbrev pub named_in : Things → TableNo → Text → Table → List Reference
named_in things parent name table = by_constraint things table parent (find (λ c. bytes_eq name c.name) table.constraints)

-- the foreign key that a parent sees as its child
abbrev pub child_reference : Things → TableNo → Child → List Reference
child_reference things parent child = option_map_or (named_in things parent child.constraint) (table_numbered things child.table) []

-- those that reference a table, in the order of creation
abbrev pub references_on : Things → TableNo → List Reference
references_on things table = option_map_or (λ t. flat_map (child_reference things table) (children_of things t.name)) (table_numbered things table) []

-- ---- the foreign keys of a table

abbrev pub own_by : Things → Table → Text → Rule → List Reference
own_by things table name (rule.ForeignKey key) = option_map_or (λ parent. reference_of things table parent.number name key ∷ []) (table_named things key.parent) []
own_by things table name (rule.NotNull column) = []
own_by things table name (rule.PrimaryKey columns) = []
own_by things table name (rule.Unique columns) = []
own_by things table name (rule.Check condition) = []
own_by things table name (rule.Index columns) = []

-- those that a table has, in the order of creation
abbrev pub references_of : Things → TableNo → List Reference
references_of things table = option_map_or (λ t. flat_map (λ c. own_by things t c.name c.rule) t.constraints) (table_numbered things table) []

-- ---- of all tables

-- for each table these are the foreign keys that reference it
abbrev pub AreOf : Things → Keys → Type 0
AreOf things keys = (table : TableNo) → keys_on keys table.0 ≡ references_on things table
