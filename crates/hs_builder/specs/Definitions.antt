-- The steps that build definitions of tables, constraints and indexes.
use Rattle.std.specs.Prelude.{ℕ, List, [], ◌∷◌, ◌++◌, Some, None}
use Rattle.hs_ast.specs.declared.definition.AlterAction.{AlterAction}
use Rattle.hs_ast.specs.declared.definition.AlterAction.TheVariants as action
use Rattle.hs_ast.specs.declared.definition.ColumnDefinition.{ColumnDefinition}
use Rattle.hs_ast.specs.declared.definition.ColumnRule.{ColumnRule}
use Rattle.hs_ast.specs.declared.definition.ColumnRule.TheVariants as column
use Rattle.hs_ast.specs.declared.definition.CreateTable.{CreateTable}
use Rattle.hs_ast.specs.declared.definition.DataType.{DataType}
use Rattle.hs_ast.specs.declared.definition.ForeignKey.{ForeignKey}
use Rattle.hs_ast.specs.declared.definition.ReferentialAction.{ReferentialAction}
use Rattle.hs_ast.specs.declared.definition.ReferentialAction.TheVariants.{NoAction}
use Rattle.hs_ast.specs.declared.definition.Storage.{Storage}
use Rattle.hs_ast.specs.declared.definition.TableConstraint.{TableConstraint}
use Rattle.hs_ast.specs.declared.definition.TableElement.TheVariants as element
use Rattle.hs_ast.specs.declared.definition.TableRule.{TableRule}
use Rattle.hs_ast.specs.declared.definition.TableRule.TheVariants as table
use Rattle.hs_ast.specs.declared.statement.Stmt.{Stmt}
use Rattle.hs_ast.specs.declared.statement.Stmt.TheVariants as statement
use Rattle.hs_ast.specs.declared.word.Identifier.{Identifier}
use Rattle.hs_builder.specs.declared.part.Built.{Built}
use Rattle.hs_builder.specs.declared.part.ConstraintHeader.{ConstraintHeader}
use Rattle.hs_builder.specs.declared.part.PlacedLiteral.{PlacedLiteral}
use Rattle.hs_builder.specs.Steps.{Step, stands, wrong}

-- ---- tables

abbrev pub begin_table : Storage → List Identifier × List CreateTable → Step (List Identifier × List CreateTable)
begin_table storage ((name ∷ names), below) = stands (names, record { storage = storage; name = name; elements = [] } ∷ below)
begin_table _ _ = wrong

abbrev pub column_element : List ColumnDefinition × List CreateTable → Step (List ColumnDefinition × List CreateTable)
column_element ((c ∷ columns), (t ∷ below)) = stands (columns, record t { elements = t.elements ++ element.Column c ∷ [] } ∷ below)
column_element _ = wrong

abbrev pub constraint_element : List TableConstraint × List CreateTable → Step (List TableConstraint × List CreateTable)
constraint_element ((c ∷ constraints), (t ∷ below)) = stands (constraints, record t { elements = t.elements ++ element.Constraint c ∷ [] } ∷ below)
constraint_element _ = wrong

abbrev pub create_statement : List CreateTable × List Stmt → Step (List CreateTable × List Stmt)
create_statement ((t ∷ tables), below) = stands (tables, statement.CreateTable t ∷ below)
create_statement _ = wrong

abbrev pub create_index : List Identifier × List (List Identifier) × List Stmt → Step (List Identifier × List (List Identifier) × List Stmt)
create_index ((t ∷ name ∷ names), (columns ∷ lists), below) = stands (names, lists, statement.CreateIndex (record { name = name; table = t; columns = columns }) ∷ below)
create_index _ = wrong

abbrev pub drop_table : List Identifier × List Stmt → Step (List Identifier × List Stmt)
drop_table ((name ∷ names), below) = stands (names, statement.DropTable name ∷ below)
drop_table _ = wrong

abbrev pub drop_index : List Identifier × List Stmt → Step (List Identifier × List Stmt)
drop_index ((name ∷ names), below) = stands (names, statement.DropIndex name ∷ below)
drop_index _ = wrong

-- ---- ALTER TABLE

abbrev pub altered : Identifier → AlterAction → Stmt
altered name a = statement.AlterTable (record { table = name; action = a })

abbrev pub add_column : List Identifier × List ColumnDefinition × List Stmt → Step (List Identifier × List ColumnDefinition × List Stmt)
add_column ((t ∷ names), (c ∷ columns), below) = stands (names, columns, altered t (action.AddColumn c) ∷ below)
add_column _ = wrong

abbrev pub add_constraint : List Identifier × List TableConstraint × List Stmt → Step (List Identifier × List TableConstraint × List Stmt)
add_constraint ((t ∷ names), (c ∷ constraints), below) = stands (names, constraints, altered t (action.AddConstraint c) ∷ below)
add_constraint _ = wrong

abbrev pub drop_constraint : List Identifier × List Stmt → Step (List Identifier × List Stmt)
drop_constraint ((name ∷ t ∷ names), below) = stands (names, altered t (action.DropConstraint name) ∷ below)
drop_constraint _ = wrong

-- ---- columns

abbrev pub define : List Identifier × List DataType × List ColumnDefinition → Step (List Identifier × List DataType × List ColumnDefinition)
define ((name ∷ names), (t ∷ types), below) = stands (names, types, record { name = name; data_type = t; default = None; constraints = [] } ∷ below)
define _ = wrong

abbrev pub default : List PlacedLiteral × List ColumnDefinition → Step (List PlacedLiteral × List ColumnDefinition)
default ((l ∷ literals), (c ∷ below)) = stands (literals, record c { default = Some (record { at = l.at; literal = l.literal }) } ∷ below)
default _ = wrong

abbrev pub named : List ℕ × List Identifier × List ConstraintHeader → Step (List ℕ × List Identifier × List ConstraintHeader)
named ((at ∷ places), (name ∷ names), below) = stands (places, names, record { at = at; name = Some name } ∷ below)
named _ = wrong

abbrev pub unnamed : List ℕ × List ConstraintHeader → Step (List ℕ × List ConstraintHeader)
unnamed ((at ∷ places), below) = stands (places, record { at = at; name = None } ∷ below)
unnamed _ = wrong

abbrev pub with_rule : ColumnDefinition → ConstraintHeader → ColumnRule → ColumnDefinition
with_rule c h rule = record c { constraints = c.constraints ++ record { at = h.at; name = h.name; rule = rule } ∷ [] }

abbrev pub add_rule : ColumnRule → List ConstraintHeader × List ColumnDefinition → Step (List ConstraintHeader × List ColumnDefinition)
add_rule rule ((h ∷ headers), (c ∷ below)) = stands (headers, with_rule c h rule ∷ below)
add_rule _ _ = wrong

abbrev pub not_null : List ConstraintHeader × List ColumnDefinition → Step (List ConstraintHeader × List ColumnDefinition)
not_null = add_rule column.NotNull

abbrev pub column_primary : List ConstraintHeader × List ColumnDefinition → Step (List ConstraintHeader × List ColumnDefinition)
column_primary = add_rule column.PrimaryKey

abbrev pub column_unique : List ConstraintHeader × List ColumnDefinition → Step (List ConstraintHeader × List ColumnDefinition)
column_unique = add_rule column.Unique

abbrev pub column_check : List Built × List ConstraintHeader × List ColumnDefinition → Step (List Built × List ConstraintHeader × List ColumnDefinition)
column_check ((e ∷ expressions), (h ∷ headers), (c ∷ below)) = stands (expressions, headers, with_rule c h (column.Check e.tree) ∷ below)
column_check _ = wrong

abbrev pub column_references : List ForeignKey × List ConstraintHeader × List ColumnDefinition → Step (List ForeignKey × List ConstraintHeader × List ColumnDefinition)
column_references ((k ∷ keys), (h ∷ headers), (c ∷ below)) = stands (keys, headers, with_rule c h (column.References k) ∷ below)
column_references _ = wrong

-- ---- foreign keys

abbrev pub references : List Identifier × List ForeignKey → Step (List Identifier × List ForeignKey)
references ((name ∷ names), below) = stands (names, record { parent = name; parent_columns = []; on_delete = NoAction; on_update = NoAction } ∷ below)
references _ = wrong

abbrev pub parent_columns : List (List Identifier) × List ForeignKey → Step (List (List Identifier) × List ForeignKey)
parent_columns ((columns ∷ lists), (k ∷ below)) = stands (lists, record k { parent_columns = columns } ∷ below)
parent_columns _ = wrong

-- of several actions of one kind the last one holds
abbrev pub on_delete : List ReferentialAction × List ForeignKey → Step (List ReferentialAction × List ForeignKey)
on_delete ((a ∷ actions), (k ∷ below)) = stands (actions, record k { on_delete = a } ∷ below)
on_delete _ = wrong

abbrev pub on_update : List ReferentialAction × List ForeignKey → Step (List ReferentialAction × List ForeignKey)
on_update ((a ∷ actions), (k ∷ below)) = stands (actions, record k { on_update = a } ∷ below)
on_update _ = wrong

-- ---- constraints of tables

abbrev pub ruled : ConstraintHeader → TableRule → TableConstraint
ruled h rule = record { at = h.at; name = h.name; rule = rule }

abbrev pub table_primary : List ConstraintHeader × List (List Identifier) × List TableConstraint → Step (List ConstraintHeader × List (List Identifier) × List TableConstraint)
table_primary ((h ∷ headers), (columns ∷ lists), below) = stands (headers, lists, ruled h (table.PrimaryKey columns) ∷ below)
table_primary _ = wrong

abbrev pub table_unique : List ConstraintHeader × List (List Identifier) × List TableConstraint → Step (List ConstraintHeader × List (List Identifier) × List TableConstraint)
table_unique ((h ∷ headers), (columns ∷ lists), below) = stands (headers, lists, ruled h (table.Unique columns) ∷ below)
table_unique _ = wrong

abbrev pub table_check : List Built × List ConstraintHeader × List TableConstraint → Step (List Built × List ConstraintHeader × List TableConstraint)
table_check ((e ∷ expressions), (h ∷ headers), below) = stands (expressions, headers, ruled h (table.Check e.tree) ∷ below)
table_check _ = wrong

abbrev pub table_foreign : List ConstraintHeader × List (List Identifier) × List ForeignKey × List TableConstraint → Step (List ConstraintHeader × List (List Identifier) × List ForeignKey × List TableConstraint)
table_foreign ((h ∷ headers), (columns ∷ lists), (k ∷ keys), below) = stands (headers, lists, keys, ruled h (table.ForeignKey columns k) ∷ below)
table_foreign _ = wrong
