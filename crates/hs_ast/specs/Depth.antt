-- The depth of a tree: the greatest number of operators, predicates, functions, CASEs and queries on a path from its root.
use Rattle.std.specs.Prelude.{ℕ, ◌+◌, List, [], ◌∷◌, Option, None, Some, map, max, fold, unwrap_or}
use Rattle.hs_ast.specs.declared.expression.Expression.{Expression, fold-Expression}
use Rattle.hs_ast.specs.declared.expression.ExpressionKind.TheOpen.{ExpressionKind-F, Join-F, QueryBody-F, SelectItem-F, TableReference-F, CaseArm-F, Expression-F, FromItem-F, Query-F, Select-F, SortKey-F, ValuesRow-F}
use Rattle.hs_ast.specs.declared.query.Query.{Query, fold-Query}
use Rattle.hs_ast.specs.declared.change.Assignment.{Assignment}
use Rattle.hs_ast.specs.declared.change.InsertSource.{InsertSource}
use Rattle.hs_ast.specs.declared.change.InsertSource.TheVariants as source
use Rattle.hs_ast.specs.declared.change.NewValue.{NewValue}
use Rattle.hs_ast.specs.declared.change.NewValue.TheVariants as value
use Rattle.hs_ast.specs.declared.definition.AlterAction.{AlterAction}
use Rattle.hs_ast.specs.declared.definition.AlterAction.TheVariants as action
use Rattle.hs_ast.specs.declared.definition.ColumnRule.{ColumnRule}
use Rattle.hs_ast.specs.declared.definition.ColumnRule.TheVariants as column
use Rattle.hs_ast.specs.declared.definition.TableElement.{TableElement}
use Rattle.hs_ast.specs.declared.definition.TableElement.TheVariants as element
use Rattle.hs_ast.specs.declared.definition.TableRule.{TableRule}
use Rattle.hs_ast.specs.declared.definition.TableRule.TheVariants as table
use Rattle.hs_ast.specs.declared.statement.Stmt.{Stmt}
use Rattle.hs_ast.specs.declared.statement.Stmt.TheVariants as s

abbrev pub deepest : List ℕ → ℕ
deepest depths = fold max 0 depths

-- 0 for what isn't written
abbrev pub if_written : Option ℕ → ℕ
if_written depth = unwrap_or depth 0

-- ---- one layer, with the depths of its parts in their places

abbrev pub of_kind : ExpressionKind-F ℕ ℕ ℕ ℕ ℕ ℕ ℕ ℕ ℕ ℕ ℕ ℕ → ℕ
of_kind (ExpressionKind-F.Literal literal) = 0
of_kind (ExpressionKind-F.Column name) = 0
of_kind (ExpressionKind-F.Signed sign a) = a + 1
of_kind (ExpressionKind-F.Not a) = a + 1
of_kind (ExpressionKind-F.Binary operator a b) = max a b + 1
of_kind (ExpressionKind-F.IsNull a negated) = a + 1
of_kind (ExpressionKind-F.Between a negated low high) = deepest (a ∷ low ∷ high ∷ []) + 1
of_kind (ExpressionKind-F.InList a negated list) = deepest (a ∷ list) + 1
of_kind (ExpressionKind-F.InQuery a negated query) = max a query + 1
of_kind (ExpressionKind-F.Like a negated pattern escape) = max a pattern + 1
of_kind (ExpressionKind-F.Exists query) = query + 1
of_kind (ExpressionKind-F.Subquery query) = query
of_kind (ExpressionKind-F.Cast a data_type) = a + 1
of_kind (ExpressionKind-F.Case arms otherwise) = max (deepest arms) (if_written otherwise) + 1
of_kind (ExpressionKind-F.Call function arguments) = deepest arguments + 1
of_kind (ExpressionKind-F.Substring text start count) = deepest (text ∷ start ∷ if_written count ∷ []) + 1
of_kind (ExpressionKind-F.Trim manner character text) = max (if_written character) text + 1
of_kind (ExpressionKind-F.Extract field a) = a + 1
of_kind (ExpressionKind-F.Interval a sign count unit) = a + 1
of_kind ExpressionKind-F.CountRows = 1
of_kind (ExpressionKind-F.Aggregate function distinct a) = a + 1

abbrev pub of_arm : CaseArm-F ℕ ℕ ℕ ℕ ℕ ℕ ℕ ℕ ℕ ℕ ℕ ℕ → ℕ
of_arm arm = max arm.test arm.value

abbrev pub of_expression : Expression-F ℕ ℕ ℕ ℕ ℕ ℕ ℕ ℕ ℕ ℕ ℕ ℕ → ℕ
of_expression e = e.kind

abbrev pub of_query : Query-F ℕ ℕ ℕ ℕ ℕ ℕ ℕ ℕ ℕ ℕ ℕ ℕ → ℕ
of_query query = max query.body (deepest query.order_by) + 1

-- SELECT and VALUES are no level, and UNION, EXCEPT and INTERSECT are operators
abbrev pub of_body : QueryBody-F ℕ ℕ ℕ ℕ ℕ ℕ ℕ ℕ ℕ ℕ ℕ ℕ → ℕ
of_body (QueryBody-F.Select select) = select
of_body (QueryBody-F.Values rows) = deepest rows
of_body (QueryBody-F.SetOperation operator a b) = max a b + 1

abbrev pub of_row : ValuesRow-F ℕ ℕ ℕ ℕ ℕ ℕ ℕ ℕ ℕ ℕ ℕ ℕ → ℕ
of_row row = deepest row.values

abbrev pub of_select : Select-F ℕ ℕ ℕ ℕ ℕ ℕ ℕ ℕ ℕ ℕ ℕ ℕ → ℕ
of_select s = deepest (deepest s.items ∷ deepest s.from ∷ if_written s.filter ∷ deepest s.group_by ∷ if_written s.having ∷ [])

abbrev pub of_item : SelectItem-F ℕ ℕ ℕ ℕ ℕ ℕ ℕ ℕ ℕ ℕ ℕ ℕ → ℕ
of_item (SelectItem-F.Every at) = 0
of_item (SelectItem-F.One at value alias) = value

abbrev pub of_from : FromItem-F ℕ ℕ ℕ ℕ ℕ ℕ ℕ ℕ ℕ ℕ ℕ ℕ → ℕ
of_from from = max from.table (deepest from.joins)

abbrev pub of_table : TableReference-F ℕ ℕ ℕ ℕ ℕ ℕ ℕ ℕ ℕ ℕ ℕ ℕ → ℕ
of_table (TableReference-F.Named name alias) = 0
of_table (TableReference-F.Derived query alias) = query

-- a join is no level
abbrev pub of_join : Join-F ℕ ℕ ℕ ℕ ℕ ℕ ℕ ℕ ℕ ℕ ℕ ℕ → ℕ
of_join (Join-F.Inner table on) = max table on
of_join (Join-F.Left table on) = max table on
of_join (Join-F.Cross table) = table

abbrev pub of_key : SortKey-F ℕ ℕ ℕ ℕ ℕ ℕ ℕ ℕ ℕ ℕ ℕ ℕ → ℕ
of_key key = key.value

-- ---- whole trees

abbrev pub depth_of : Expression → ℕ
depth_of = fold-Expression ℕ ℕ ℕ ℕ ℕ ℕ ℕ ℕ ℕ ℕ ℕ ℕ of_kind of_join of_body of_item of_table of_arm of_expression of_from of_query of_select of_key of_row

abbrev pub query_depth_of : Query → ℕ
query_depth_of = fold-Query ℕ ℕ ℕ ℕ ℕ ℕ ℕ ℕ ℕ ℕ ℕ ℕ of_kind of_join of_body of_item of_table of_arm of_expression of_from of_query of_select of_key of_row

abbrev pub value_depth_of : NewValue → ℕ
value_depth_of (value.Expression e) = depth_of e
value_depth_of (value.Default at) = 0

-- VALUES of an INSERT is no query
abbrev pub source_depth_of : InsertSource → ℕ
source_depth_of (source.Tuples tuples) = deepest (map (λ t. deepest (map value_depth_of t)) tuples)
source_depth_of (source.Query query) = query_depth_of query

abbrev pub column_rule_depth_of : ColumnRule → ℕ
column_rule_depth_of (column.Check e) = depth_of e
column_rule_depth_of _ = 0

abbrev pub table_rule_depth_of : TableRule → ℕ
table_rule_depth_of (table.Check e) = depth_of e
table_rule_depth_of _ = 0

abbrev pub element_depth_of : TableElement → ℕ
element_depth_of (element.Column c) = deepest (map (λ constraint. column_rule_depth_of constraint.rule) c.constraints)
element_depth_of (element.Constraint c) = table_rule_depth_of c.rule

abbrev pub action_depth_of : AlterAction → ℕ
action_depth_of (action.AddColumn c) = element_depth_of (element.Column c)
action_depth_of (action.AddConstraint c) = table_rule_depth_of c.rule
action_depth_of (action.DropConstraint name) = 0

abbrev pub filter_depth_of : Option Expression → ℕ
filter_depth_of None = 0
filter_depth_of (Some e) = depth_of e

abbrev pub statement_depth_of : Stmt → ℕ
statement_depth_of (s.Query query) = query_depth_of query
statement_depth_of (s.Insert insert) = source_depth_of insert.source
statement_depth_of (s.Update update) = max (deepest (map (λ (a : Assignment). value_depth_of a.value) update.assignments)) (filter_depth_of update.filter)
statement_depth_of (s.Delete delete) = filter_depth_of delete.filter
statement_depth_of (s.CreateTable create) = deepest (map element_depth_of create.elements)
statement_depth_of (s.AlterTable alter) = action_depth_of alter.action
statement_depth_of _ = 0
