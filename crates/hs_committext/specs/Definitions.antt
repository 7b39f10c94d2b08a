-- How definitions are written.
use Rattle.std.specs.Prelude.{ℕ, List, [], ◌∷◌, ◌++◌}
use Rattle.hs_ast.specs.declared.definition.Storage.{Storage}
use Rattle.hs_plan.specs.declared.definition.Column.{Column}
use Rattle.hs_plan.specs.declared.definition.Constraint.{Constraint}
use Rattle.hs_plan.specs.declared.definition.Definition.{Definition}
use Rattle.hs_plan.specs.declared.definition.Definition.TheVariants as d
use Rattle.hs_schema.specs.Catalogue.{Things}
use Rattle.hs_columntext.specs.Columns as defaults
use Rattle.hs_tabletext.specs.Conditions.{Wording}
use Rattle.hs_tabletext.specs.Rules as rules
use Rattle.hs_parttext.specs.Lines.{IsLine}
use Rattle.hs_parttext.specs.Named.{IsName}
use Rattle.hs_tabletext.specs.Constraints as lines
use Rattle.hs_tabletext.specs.declared.definition.NewTable.{NewTable}
use Rattle.hs_tabletext.specs.Tables.{owner_of, table_text, IsNewTable}
use Rattle.hs_shorttext.specs.declared.index.NewIndex.{NewIndex}
use Rattle.hs_shorttext.specs.Indexes.{index_text, IsIndex}
use Rattle.hs_shorttext.specs.Plain.{dropped_table_text, dropped_index_text}
use Rattle.hs_shorttext.specs.Settings.{control_line, level_line}
use Rattle.hs_shorttext.specs.Tables.{columns_of}
use Rattle.hs_alterationtext.specs.declared.alteration.Alteration.{Alteration}
use Rattle.hs_alterationtext.specs.declared.alteration.Alteration.TheVariants as a
use Rattle.hs_alterationtext.specs.Alterations.{adding, alter_text, IsAlter}

-- ---- definitions by what their lines say

abbrev pub creating : NewTable → Definition
creating t = d.CreateTable t.storage t.name t.columns t.constraints

abbrev pub indexing : NewIndex → Definition
indexing i = d.CreateIndex i.table i.name i.columns

abbrev pub altering : List ℕ → Alteration → Definition
altering table (a.AddColumn added) = d.AddColumn table added.column added.constraints
altering table (a.AddConstraint constraint) = d.AddConstraint table constraint
altering table (a.DropConstraint name) = d.DropConstraint table name

abbrev pub new_table : Storage → List ℕ → List Column → List Constraint → NewTable
new_table storage name columns constraints = record { storage = storage; name = name; columns = columns; constraints = constraints }

abbrev pub new_index : List ℕ → List ℕ → List ℕ → NewIndex
new_index table name columns = record { name = name; table = table; columns = columns }

-- ---- their texts

-- the one text of each definition, beside the things of a catalogue before it
abbrev pub definition_text : Wording → Things → Definition → List ℕ
definition_text wording things (d.CreateTable storage name columns constraints) = table_text wording (owner_of things name columns) storage constraints
definition_text wording things (d.DropTable name) = dropped_table_text name
definition_text wording things (d.AddColumn table column constraints) = alter_text wording things table (adding column constraints)
definition_text wording things (d.AddConstraint table constraint) = alter_text wording things table (a.AddConstraint constraint)
definition_text wording things (d.DropConstraint table name) = alter_text wording things table (a.DropConstraint name)
definition_text wording things (d.CreateIndex table name columns) = index_text things name table columns
definition_text wording things (d.DropIndex name) = dropped_index_text name
definition_text wording things (d.SetControl control) = control_line control
definition_text wording things (d.SetDefaultLevel serializable) = level_line serializable

-- Names are names. A table that is altered or gets an index is one of the catalogue's. Columns, keys and constraints are
-- such as can be written. NOT NULL isn't added alone.
abbrev pub IsDefinition : Wording → Things → Definition → Type 0
IsDefinition wording things (d.CreateTable storage name columns constraints) = IsNewTable wording things (new_table storage name columns constraints)
IsDefinition wording things (d.DropTable name) = IsName name
IsDefinition wording things (d.AddColumn table column constraints) = IsAlter wording things (table, adding column constraints)
IsDefinition wording things (d.AddConstraint table constraint) = IsAlter wording things (table, a.AddConstraint constraint)
IsDefinition wording things (d.DropConstraint table name) = IsAlter wording things (table, a.DropConstraint name)
IsDefinition wording things (d.CreateIndex table name columns) = IsIndex things (new_index table name columns)
IsDefinition wording things (d.DropIndex name) = IsName name
IsDefinition wording things (d.SetControl control) = Unit {0}
IsDefinition wording things (d.SetDefaultLevel serializable) = Unit {0}

-- the text is that of this definition
abbrev pub IsDefinitionText : Wording → Things → List ℕ → Definition → Type 0
IsDefinitionText wording things = IsLine (IsDefinition wording things) (definition_text wording things)

-- the values behind DEFAULT and the conditions of CHECKs can be written
abbrev pub IsPrintable : Wording → Things → Definition → Type 0
IsPrintable wording things (d.CreateTable storage name columns constraints) = defaults.ArePrintable columns × lines.ArePrintable wording columns constraints
IsPrintable wording things (d.AddColumn table column constraints) = defaults.IsPrintable column.default × lines.ArePrintable wording (columns_of things table ++ column ∷ []) constraints
IsPrintable wording things (d.AddConstraint table constraint) = rules.IsPrintable wording (columns_of things table) constraint.rule
IsPrintable wording things _ = Unit {0}
