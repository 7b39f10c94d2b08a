-- Places set anew, and trees that are equal but for places. A place is set in each layer that has one of its own; every other layer
-- is built again as it is.
use Rattle.std.specs.Prelude.{◌≡◌, ℕ, List, Option, None, Some, map}
use Rattle.hs_ast.specs.declared.expression.Expression.{Expression, fold-Expression, roll-Expression}
use Rattle.hs_ast.specs.declared.expression.ExpressionKind.{ExpressionKind, fold-ExpressionKind, roll-ExpressionKind}
use Rattle.hs_ast.specs.declared.expression.ExpressionKind.TheOpen.{SelectItem-F, TableReference-F, Expression-F, Query-F, SortKey-F}
use Rattle.hs_ast.specs.declared.expression.CaseArm.{CaseArm, fold-CaseArm, roll-CaseArm}
use Rattle.hs_ast.specs.declared.query.FromItem.{FromItem, fold-FromItem, roll-FromItem}
use Rattle.hs_ast.specs.declared.query.Join.{Join, fold-Join, roll-Join}
use Rattle.hs_ast.specs.declared.query.Query.{Query, fold-Query, roll-Query}
use Rattle.hs_ast.specs.declared.query.QueryBody.{QueryBody, fold-QueryBody, roll-QueryBody}
use Rattle.hs_ast.specs.declared.query.Select.{Select, fold-Select, roll-Select}
use Rattle.hs_ast.specs.declared.query.SelectItem.{SelectItem, fold-SelectItem, roll-SelectItem}
use Rattle.hs_ast.specs.declared.query.SortKey.{SortKey, fold-SortKey, roll-SortKey}
use Rattle.hs_ast.specs.declared.query.TableReference.{TableReference, fold-TableReference, roll-TableReference}
use Rattle.hs_ast.specs.declared.query.ValuesRow.{ValuesRow, fold-ValuesRow, roll-ValuesRow}
use Rattle.hs_ast.specs.declared.change.Assignment.{Assignment}
use Rattle.hs_ast.specs.declared.change.Delete.{Delete}
use Rattle.hs_ast.specs.declared.change.Insert.{Insert}
use Rattle.hs_ast.specs.declared.change.InsertSource.{InsertSource}
use Rattle.hs_ast.specs.declared.change.InsertSource.TheVariants as source
use Rattle.hs_ast.specs.declared.change.LockedTable.{LockedTable}
use Rattle.hs_ast.specs.declared.change.NewValue.{NewValue}
use Rattle.hs_ast.specs.declared.change.NewValue.TheVariants as value
use Rattle.hs_ast.specs.declared.change.Update.{Update}
use Rattle.hs_ast.specs.declared.definition.AlterAction.{AlterAction}
use Rattle.hs_ast.specs.declared.definition.AlterAction.TheVariants as action
use Rattle.hs_ast.specs.declared.definition.AlterTable.{AlterTable}
use Rattle.hs_ast.specs.declared.definition.ColumnConstraint.{ColumnConstraint}
use Rattle.hs_ast.specs.declared.definition.ColumnDefinition.{ColumnDefinition}
use Rattle.hs_ast.specs.declared.definition.ColumnRule.{ColumnRule}
use Rattle.hs_ast.specs.declared.definition.ColumnRule.TheVariants as column
use Rattle.hs_ast.specs.declared.definition.CreateIndex.{CreateIndex}
use Rattle.hs_ast.specs.declared.definition.CreateTable.{CreateTable}
use Rattle.hs_ast.specs.declared.definition.DefaultValue.{DefaultValue}
use Rattle.hs_ast.specs.declared.definition.ForeignKey.{ForeignKey}
use Rattle.hs_ast.specs.declared.definition.TableConstraint.{TableConstraint}
use Rattle.hs_ast.specs.declared.definition.TableElement.{TableElement}
use Rattle.hs_ast.specs.declared.definition.TableElement.TheVariants as element
use Rattle.hs_ast.specs.declared.definition.TableRule.{TableRule}
use Rattle.hs_ast.specs.declared.definition.TableRule.TheVariants as table
use Rattle.hs_ast.specs.declared.statement.Stmt.{Stmt}
use Rattle.hs_ast.specs.declared.statement.Stmt.TheVariants as s
use Rattle.hs_ast.specs.declared.word.Identifier.{Identifier}

abbrev pub placed_name : ℕ → Identifier → Identifier
placed_name p name = record { name = name.name; at = p }

abbrev pub placed_if_named : ℕ → Option Identifier → Option Identifier
placed_if_named p None = None
placed_if_named p (Some name) = Some (placed_name p name)

abbrev pub placed_names : ℕ → List Identifier → List Identifier
placed_names p = map (placed_name p)

-- ---- the layers that have a place of their own

abbrev pub of_expression : ℕ → Expression-F ExpressionKind Join QueryBody SelectItem TableReference CaseArm Expression FromItem Query Select SortKey ValuesRow → Expression
of_expression p e = roll-Expression (record { at = p; kind = e.kind })

abbrev pub of_query : ℕ → Query-F ExpressionKind Join QueryBody SelectItem TableReference CaseArm Expression FromItem Query Select SortKey ValuesRow → Query
of_query p q = roll-Query (record { at = p; body = q.body; order_by = q.order_by; limit = q.limit })

abbrev pub of_key : ℕ → SortKey-F ExpressionKind Join QueryBody SelectItem TableReference CaseArm Expression FromItem Query Select SortKey ValuesRow → SortKey
of_key p key = roll-SortKey (record { at = p; value = key.value; descending = key.descending })

abbrev pub of_item : ℕ → SelectItem-F ExpressionKind Join QueryBody SelectItem TableReference CaseArm Expression FromItem Query Select SortKey ValuesRow → SelectItem
of_item p (SelectItem-F.Every at) = roll-SelectItem (SelectItem-F.Every p)
of_item p (SelectItem-F.One at shown alias) = roll-SelectItem (SelectItem-F.One p shown (placed_if_named p alias))

abbrev pub of_table : ℕ → TableReference-F ExpressionKind Join QueryBody SelectItem TableReference CaseArm Expression FromItem Query Select SortKey ValuesRow → TableReference
of_table p (TableReference-F.Named name alias) = roll-TableReference (TableReference-F.Named (placed_name p name) (placed_if_named p alias))
of_table p (TableReference-F.Derived query alias) = roll-TableReference (TableReference-F.Derived query (placed_name p alias))

-- ---- trees with every place set to p

abbrev pub placed_kind : ℕ → ExpressionKind → ExpressionKind
placed_kind p = fold-ExpressionKind ExpressionKind Join QueryBody SelectItem TableReference CaseArm Expression FromItem Query Select SortKey ValuesRow roll-ExpressionKind roll-Join roll-QueryBody (of_item p) (of_table p) roll-CaseArm (of_expression p) roll-FromItem (of_query p) roll-Select (of_key p) roll-ValuesRow

abbrev pub placed_join : ℕ → Join → Join
placed_join p = fold-Join ExpressionKind Join QueryBody SelectItem TableReference CaseArm Expression FromItem Query Select SortKey ValuesRow roll-ExpressionKind roll-Join roll-QueryBody (of_item p) (of_table p) roll-CaseArm (of_expression p) roll-FromItem (of_query p) roll-Select (of_key p) roll-ValuesRow

abbrev pub placed_body : ℕ → QueryBody → QueryBody
placed_body p = fold-QueryBody ExpressionKind Join QueryBody SelectItem TableReference CaseArm Expression FromItem Query Select SortKey ValuesRow roll-ExpressionKind roll-Join roll-QueryBody (of_item p) (of_table p) roll-CaseArm (of_expression p) roll-FromItem (of_query p) roll-Select (of_key p) roll-ValuesRow

abbrev pub placed_item : ℕ → SelectItem → SelectItem
placed_item p = fold-SelectItem ExpressionKind Join QueryBody SelectItem TableReference CaseArm Expression FromItem Query Select SortKey ValuesRow roll-ExpressionKind roll-Join roll-QueryBody (of_item p) (of_table p) roll-CaseArm (of_expression p) roll-FromItem (of_query p) roll-Select (of_key p) roll-ValuesRow

abbrev pub placed_table : ℕ → TableReference → TableReference
placed_table p = fold-TableReference ExpressionKind Join QueryBody SelectItem TableReference CaseArm Expression FromItem Query Select SortKey ValuesRow roll-ExpressionKind roll-Join roll-QueryBody (of_item p) (of_table p) roll-CaseArm (of_expression p) roll-FromItem (of_query p) roll-Select (of_key p) roll-ValuesRow

abbrev pub placed_arm : ℕ → CaseArm → CaseArm
placed_arm p = fold-CaseArm ExpressionKind Join QueryBody SelectItem TableReference CaseArm Expression FromItem Query Select SortKey ValuesRow roll-ExpressionKind roll-Join roll-QueryBody (of_item p) (of_table p) roll-CaseArm (of_expression p) roll-FromItem (of_query p) roll-Select (of_key p) roll-ValuesRow

abbrev pub placed : ℕ → Expression → Expression
placed p = fold-Expression ExpressionKind Join QueryBody SelectItem TableReference CaseArm Expression FromItem Query Select SortKey ValuesRow roll-ExpressionKind roll-Join roll-QueryBody (of_item p) (of_table p) roll-CaseArm (of_expression p) roll-FromItem (of_query p) roll-Select (of_key p) roll-ValuesRow

abbrev pub placed_from : ℕ → FromItem → FromItem
placed_from p = fold-FromItem ExpressionKind Join QueryBody SelectItem TableReference CaseArm Expression FromItem Query Select SortKey ValuesRow roll-ExpressionKind roll-Join roll-QueryBody (of_item p) (of_table p) roll-CaseArm (of_expression p) roll-FromItem (of_query p) roll-Select (of_key p) roll-ValuesRow

abbrev pub placed_query : ℕ → Query → Query
placed_query p = fold-Query ExpressionKind Join QueryBody SelectItem TableReference CaseArm Expression FromItem Query Select SortKey ValuesRow roll-ExpressionKind roll-Join roll-QueryBody (of_item p) (of_table p) roll-CaseArm (of_expression p) roll-FromItem (of_query p) roll-Select (of_key p) roll-ValuesRow

abbrev pub placed_select : ℕ → Select → Select
placed_select p = fold-Select ExpressionKind Join QueryBody SelectItem TableReference CaseArm Expression FromItem Query Select SortKey ValuesRow roll-ExpressionKind roll-Join roll-QueryBody (of_item p) (of_table p) roll-CaseArm (of_expression p) roll-FromItem (of_query p) roll-Select (of_key p) roll-ValuesRow

abbrev pub placed_key : ℕ → SortKey → SortKey
placed_key p = fold-SortKey ExpressionKind Join QueryBody SelectItem TableReference CaseArm Expression FromItem Query Select SortKey ValuesRow roll-ExpressionKind roll-Join roll-QueryBody (of_item p) (of_table p) roll-CaseArm (of_expression p) roll-FromItem (of_query p) roll-Select (of_key p) roll-ValuesRow

abbrev pub placed_row : ℕ → ValuesRow → ValuesRow
placed_row p = fold-ValuesRow ExpressionKind Join QueryBody SelectItem TableReference CaseArm Expression FromItem Query Select SortKey ValuesRow roll-ExpressionKind roll-Join roll-QueryBody (of_item p) (of_table p) roll-CaseArm (of_expression p) roll-FromItem (of_query p) roll-Select (of_key p) roll-ValuesRow

abbrev pub placed_if_written : ℕ → Option Expression → Option Expression
placed_if_written p None = None
placed_if_written p (Some e) = Some (placed p e)

-- ---- statements

abbrev pub placed_value : ℕ → NewValue → NewValue
placed_value p (value.Expression e) = value.Expression (placed p e)
placed_value p (value.Default at) = value.Default p

abbrev pub placed_source : ℕ → InsertSource → InsertSource
placed_source p (source.Tuples tuples) = source.Tuples (map (map (placed_value p)) tuples)
placed_source p (source.Query query) = source.Query (placed_query p query)

abbrev pub placed_insert : ℕ → Insert → Insert
placed_insert p i = record { table = placed_name p i.table; columns = placed_names p i.columns; source = placed_source p i.source }

abbrev pub placed_assignment : ℕ → Assignment → Assignment
placed_assignment p a = record { column = placed_name p a.column; value = placed_value p a.value }

abbrev pub placed_update : ℕ → Update → Update
placed_update p u = record { table = placed_name p u.table; alias = placed_if_named p u.alias; assignments = map (placed_assignment p) u.assignments; filter = placed_if_written p u.filter }

abbrev pub placed_delete : ℕ → Delete → Delete
placed_delete p d = record { table = placed_name p d.table; alias = placed_if_named p d.alias; filter = placed_if_written p d.filter }

abbrev pub placed_lock : ℕ → LockedTable → LockedTable
placed_lock p l = record { table = placed_name p l.table; write = l.write }

abbrev pub placed_default : ℕ → Option DefaultValue → Option DefaultValue
placed_default p None = None
placed_default p (Some d) = Some (record { at = p; literal = d.literal })

abbrev pub placed_foreign_key : ℕ → ForeignKey → ForeignKey
placed_foreign_key p k = record { parent = placed_name p k.parent; parent_columns = placed_names p k.parent_columns; on_delete = k.on_delete; on_update = k.on_update }

abbrev pub placed_column_rule : ℕ → ColumnRule → ColumnRule
placed_column_rule p column.NotNull = column.NotNull
placed_column_rule p column.PrimaryKey = column.PrimaryKey
placed_column_rule p column.Unique = column.Unique
placed_column_rule p (column.Check e) = column.Check (placed p e)
placed_column_rule p (column.References key) = column.References (placed_foreign_key p key)

abbrev pub placed_column_constraint : ℕ → ColumnConstraint → ColumnConstraint
placed_column_constraint p c = record { at = p; name = placed_if_named p c.name; rule = placed_column_rule p c.rule }

abbrev pub placed_column : ℕ → ColumnDefinition → ColumnDefinition
placed_column p c = record { name = placed_name p c.name; data_type = c.data_type; default = placed_default p c.default; constraints = map (placed_column_constraint p) c.constraints }

abbrev pub placed_table_rule : ℕ → TableRule → TableRule
placed_table_rule p (table.PrimaryKey columns) = table.PrimaryKey (placed_names p columns)
placed_table_rule p (table.Unique columns) = table.Unique (placed_names p columns)
placed_table_rule p (table.Check e) = table.Check (placed p e)
placed_table_rule p (table.ForeignKey columns key) = table.ForeignKey (placed_names p columns) (placed_foreign_key p key)

abbrev pub placed_constraint : ℕ → TableConstraint → TableConstraint
placed_constraint p c = record { at = p; name = placed_if_named p c.name; rule = placed_table_rule p c.rule }

abbrev pub placed_element : ℕ → TableElement → TableElement
placed_element p (element.Column c) = element.Column (placed_column p c)
placed_element p (element.Constraint c) = element.Constraint (placed_constraint p c)

abbrev pub placed_create : ℕ → CreateTable → CreateTable
placed_create p t = record { storage = t.storage; name = placed_name p t.name; elements = map (placed_element p) t.elements }

abbrev pub placed_index : ℕ → CreateIndex → CreateIndex
placed_index p i = record { name = placed_name p i.name; table = placed_name p i.table; columns = placed_names p i.columns }

abbrev pub placed_action : ℕ → AlterAction → AlterAction
placed_action p (action.AddColumn c) = action.AddColumn (placed_column p c)
placed_action p (action.AddConstraint c) = action.AddConstraint (placed_constraint p c)
placed_action p (action.DropConstraint name) = action.DropConstraint (placed_name p name)

abbrev pub placed_alter : ℕ → AlterTable → AlterTable
placed_alter p a = record { table = placed_name p a.table; action = placed_action p a.action }

abbrev pub placed_statement : ℕ → Stmt → Stmt
placed_statement p (s.Query query) = s.Query (placed_query p query)
placed_statement p (s.Insert insert) = s.Insert (placed_insert p insert)
placed_statement p (s.Update update) = s.Update (placed_update p update)
placed_statement p (s.Delete delete) = s.Delete (placed_delete p delete)
placed_statement p (s.LockTable tables) = s.LockTable (map (placed_lock p) tables)
placed_statement p (s.CreateTable create) = s.CreateTable (placed_create p create)
placed_statement p (s.CreateIndex create) = s.CreateIndex (placed_index p create)
placed_statement p (s.AlterTable alter) = s.AlterTable (placed_alter p alter)
placed_statement p (s.DropTable name) = s.DropTable (placed_name p name)
placed_statement p (s.DropIndex name) = s.DropIndex (placed_name p name)
placed_statement p (s.SetControl control) = s.SetControl control
placed_statement p (s.SetDefaultLevel level) = s.SetDefaultLevel level
placed_statement p (s.SetAutocommit on) = s.SetAutocommit on
placed_statement p (s.SetCharacteristics modes) = s.SetCharacteristics modes
placed_statement p (s.SetTransaction modes) = s.SetTransaction modes
placed_statement p (s.StartTransaction modes) = s.StartTransaction modes
placed_statement p s.Commit = s.Commit
placed_statement p s.Rollback = s.Rollback
placed_statement p (s.Savepoint name) = s.Savepoint name
placed_statement p (s.RollbackTo name) = s.RollbackTo name
placed_statement p (s.ReleaseSavepoint name) = s.ReleaseSavepoint name
placed_statement p s.WriteDelayFalse = s.WriteDelayFalse
placed_statement p s.Checkpoint = s.Checkpoint
placed_statement p s.Shutdown = s.Shutdown

-- ---- equal but for places: one tree, once every place is 0

abbrev pub AreAlike : Expression → Expression → Type 0
AreAlike a b = placed 0 a ≡ placed 0 b

abbrev pub AreAlikeQueries : Query → Query → Type 0
AreAlikeQueries a b = placed_query 0 a ≡ placed_query 0 b

abbrev pub AreAlikeStatements : Stmt → Stmt → Type 0
AreAlikeStatements a b = placed_statement 0 a ≡ placed_statement 0 b
