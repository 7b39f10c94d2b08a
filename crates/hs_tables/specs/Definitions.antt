-- What CREATE TABLE, and ALTER TABLE with ADD, mean over a catalogue, their constraints having these names.
use Rattle.std.specs.Prelude.{is_some, List, [], ◌∷◌, ◌++◌, length, slice_get, Option, None}
use Rattle.std.specs.Option.{option_map, option_map_or}
use Rattle.hs_ast.specs.declared.definition.ColumnDefinition.{ColumnDefinition}
use Rattle.hs_ast.specs.declared.definition.CreateTable.{CreateTable}
use Rattle.hs_ast.specs.declared.definition.TableConstraint.{TableConstraint}
use Rattle.hs_ast.specs.declared.definition.TableElement.{TableElement}
use Rattle.hs_ast.specs.declared.definition.TableElement.TheVariants as element
use Rattle.hs_ast.specs.declared.word.Identifier.{Identifier}
use Rattle.hs_elements.specs.Faults.{Text, exists_at, where_so}
use Rattle.hs_meaning.specs.Parts.{Meaning}
use Rattle.hs_outlines.specs.Columns.{column_of, columns_written}
use Rattle.hs_outlines.specs.Limits.{beyond}
use Rattle.hs_plan.specs.declared.definition.Constraint.{Constraint}
use Rattle.hs_plan.specs.declared.definition.Definition.{Definition}
use Rattle.hs_plan.specs.declared.definition.Definition.TheVariants as d
use Rattle.hs_plan.specs.declared.fault.Which.TheVariants as which
use Rattle.hs_schema.specs.Catalogue.{Things, named, number_of}
use Rattle.hs_schema.specs.declared.table.Table.{Table}
use Rattle.hs_tables.specs.Additions.{Base, added}

-- ---- CREATE TABLE

abbrev pub new_table : Identifier → Base
new_table name = record { name = name.name; columns = []; constraints = [] }

abbrev pub table_added : Things → CreateTable → List Text → Meaning (List Constraint)
table_added things c = added things c.name.at (new_table c.name) c.elements

-- a table may have no columns
abbrev pub table_created : Things → CreateTable → List Text → Meaning Definition
table_created things c names =
    let more : Meaning (List Constraint) = table_added things c names in
    record {
      faults =
          where_so (is_some (number_of things c.name.name)) (exists_at c.name)
          ++ beyond c.name.at which.Tables (length (named things)) 1
          ++ more.faults;
      part = option_map (d.CreateTable c.storage c.name.name (columns_written c.elements)) more.part;
    }

-- ---- ALTER TABLE

-- the table of this name
abbrev pub base_of : Identifier → Table → Base
base_of name t = record { name = name.name; columns = t.columns; constraints = t.constraints }

abbrev pub by_column : ColumnDefinition → List TableElement
by_column c = element.Column c ∷ []

abbrev pub by_constraint : TableConstraint → List TableElement
by_constraint k = element.Constraint k ∷ []

abbrev pub column_added : Things → Identifier → ColumnDefinition → Table → List Text → Meaning Definition
column_added things name c t names =
    let more : Meaning (List Constraint) = added things name.at (base_of name t) (by_column c) names in
    record { faults = more.faults; part = option_map (d.AddColumn name.name (column_of c)) more.part }

-- there is one constraint, which is the first
abbrev pub with_first : Text → List Constraint → Option Definition
with_first table constraints = option_map (d.AddConstraint table) (slice_get constraints 0)

abbrev pub constraint_added : Things → Identifier → TableConstraint → Table → List Text → Meaning Definition
constraint_added things name k t names =
    let more : Meaning (List Constraint) = added things name.at (base_of name t) (by_constraint k) names in
    record { faults = more.faults; part = option_map_or (with_first name.name) more.part None }
