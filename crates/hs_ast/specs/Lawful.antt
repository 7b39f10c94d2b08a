-- Lawful trees: the names, numbers and types in them are such as the language has.
use Rattle.std.specs.Prelude.{◌≡◌, ℕ, ◌+◌, ◌^◌, ℤ, pos, negsuc, Bool, true, false, not, ◌&&◌, ◌||◌, ◌==◌, nat_le, nat_lt, List, length, Option, None, Some}
use Rattle.std.specs.List.{list_all}
use Rattle.hs_ast.specs.declared.expression.Expression.{Expression, fold-Expression}
use Rattle.hs_ast.specs.declared.expression.ColumnName.{ColumnName}
use Rattle.hs_ast.specs.declared.expression.ExpressionKind.TheOpen.{ExpressionKind-F, Join-F, QueryBody-F, SelectItem-F, TableReference-F, CaseArm-F, Expression-F, FromItem-F, Query-F, Select-F, SortKey-F, ValuesRow-F}
use Rattle.hs_ast.specs.declared.query.Limit.{Limit}
use Rattle.hs_ast.specs.declared.query.Query.{Query, fold-Query}
use Rattle.hs_ast.specs.declared.literal.Literal.{Literal}
use Rattle.hs_ast.specs.declared.literal.Literal.TheVariants as literal
use Rattle.hs_ast.specs.declared.literal.Number.{Number}
use Rattle.hs_ast.specs.declared.change.Assignment.{Assignment}
use Rattle.hs_ast.specs.declared.change.InsertSource.{InsertSource}
use Rattle.hs_ast.specs.declared.change.InsertSource.TheVariants as source
use Rattle.hs_ast.specs.declared.change.LockedTable.{LockedTable}
use Rattle.hs_ast.specs.declared.change.NewValue.{NewValue}
use Rattle.hs_ast.specs.declared.change.NewValue.TheVariants as value
use Rattle.hs_ast.specs.declared.definition.AlterAction.{AlterAction}
use Rattle.hs_ast.specs.declared.definition.AlterAction.TheVariants as action
use Rattle.hs_ast.specs.declared.definition.ColumnConstraint.{ColumnConstraint}
use Rattle.hs_ast.specs.declared.definition.ColumnDefinition.{ColumnDefinition}
use Rattle.hs_ast.specs.declared.definition.ColumnRule.{ColumnRule}
use Rattle.hs_ast.specs.declared.definition.ColumnRule.TheVariants as column
use Rattle.hs_ast.specs.declared.definition.DataType.{DataType}
use Rattle.hs_ast.specs.declared.definition.DataType.TheVariants as type
use Rattle.hs_ast.specs.declared.definition.DefaultValue.{DefaultValue}
use Rattle.hs_ast.specs.declared.definition.ForeignKey.{ForeignKey}
use Rattle.hs_ast.specs.declared.definition.TableConstraint.{TableConstraint}
use Rattle.hs_ast.specs.declared.definition.TableElement.{TableElement}
use Rattle.hs_ast.specs.declared.definition.TableElement.TheVariants as element
use Rattle.hs_ast.specs.declared.definition.TableRule.{TableRule}
use Rattle.hs_ast.specs.declared.definition.TableRule.TheVariants as table
use Rattle.hs_ast.specs.declared.statement.Stmt.{Stmt}
use Rattle.hs_ast.specs.declared.statement.Stmt.TheVariants as s
use Rattle.hs_ast.specs.declared.word.Identifier.{Identifier}

-- ---- names, numbers, types

-- U+0000 to U+001F and U+007F
abbrev pub is_control : ℕ → Bool
is_control b = nat_lt b 32 || b == 127

-- from 1 to 128 bytes, and no control character
abbrev pub is_name : List ℕ → Bool
is_name name = (nat_lt 0 (length name) && nat_le (length name) 128) && list_all (λ b. not (is_control b)) name

abbrev pub is_identifier : Identifier → Bool
is_identifier name = is_name name.name

-- what isn't written is lawful
abbrev pub if_written : {A : Type 0} → (A → Bool) → Option A → Bool
if_written test None = true
if_written test (Some a) = test a

abbrev pub size_of : ℤ → ℕ
size_of (pos n) = n
size_of (negsuc n) = n + 1

-- within 38 digits
abbrev pub is_number : Number → Bool
is_number n = nat_lt (size_of n.units) (10 ^ 38) && nat_le n.scale 38

abbrev pub has_no_sign : ℤ → Bool
has_no_sign (pos n) = true
has_no_sign (negsuc n) = false

abbrev pub is_literal : Literal → Bool
is_literal (literal.Number n) = is_number n && has_no_sign n.units
is_literal _ = true

-- behind DEFAULT a number may have a sign
abbrev pub is_signed_literal : Literal → Bool
is_signed_literal (literal.Number n) = is_number n
is_signed_literal _ = true

abbrev pub is_default : DefaultValue → Bool
is_default d = is_signed_literal d.literal

-- a precision from 1 to 38 and a scale up to it; from 1 to 4,000 characters
abbrev pub is_type : DataType → Bool
is_type (type.Decimal precision scale) = (nat_le 1 precision && nat_le precision 38) && nat_le scale precision
is_type (type.Varchar most) = nat_le 1 most && nat_le most 4000
is_type _ = true

-- at least one row, and numbers within 38 digits
abbrev pub is_limit : Limit → Bool
is_limit l = (nat_le 1 l.count && nat_lt l.count (10 ^ 38)) && if_written (λ offset. nat_lt offset (10 ^ 38)) l.offset

-- an INTERVAL has at most 18 digits
abbrev pub is_count : ℕ → Bool
is_count count = nat_lt count (10 ^ 18)

abbrev pub is_column : ColumnName → Bool
is_column c = if_written is_name c.table && is_name c.column

-- ---- one layer, with whether its parts are lawful in their places

abbrev pub all : List Bool → Bool
all = list_all (λ is. is)

abbrev pub if_is : Option Bool → Bool
if_is = if_written (λ is. is)

abbrev pub of_kind : ExpressionKind-F Bool Bool Bool Bool Bool Bool Bool Bool Bool Bool Bool Bool → Bool
of_kind (ExpressionKind-F.Literal l) = is_literal l
of_kind (ExpressionKind-F.Column name) = is_column name
of_kind (ExpressionKind-F.Signed sign a) = a
of_kind (ExpressionKind-F.Not a) = a
of_kind (ExpressionKind-F.Binary operator a b) = a && b
of_kind (ExpressionKind-F.IsNull a negated) = a
of_kind (ExpressionKind-F.Between a negated low high) = a && (low && high)
of_kind (ExpressionKind-F.InList a negated list) = a && all list
of_kind (ExpressionKind-F.InQuery a negated query) = a && query
of_kind (ExpressionKind-F.Like a negated pattern escape) = a && pattern
of_kind (ExpressionKind-F.Exists query) = query
of_kind (ExpressionKind-F.Subquery query) = query
of_kind (ExpressionKind-F.Cast a data_type) = a && is_type data_type
of_kind (ExpressionKind-F.Case arms otherwise) = all arms && if_is otherwise
of_kind (ExpressionKind-F.Call function arguments) = all arguments
of_kind (ExpressionKind-F.Substring text start count) = text && (start && if_is count)
of_kind (ExpressionKind-F.Trim manner character text) = if_is character && text
of_kind (ExpressionKind-F.Extract field a) = a
of_kind (ExpressionKind-F.Interval a sign count unit) = a && is_count count
of_kind ExpressionKind-F.CountRows = true
of_kind (ExpressionKind-F.Aggregate function distinct a) = a

abbrev pub of_arm : CaseArm-F Bool Bool Bool Bool Bool Bool Bool Bool Bool Bool Bool Bool → Bool
of_arm arm = arm.test && arm.value

abbrev pub of_expression : Expression-F Bool Bool Bool Bool Bool Bool Bool Bool Bool Bool Bool Bool → Bool
of_expression e = e.kind

abbrev pub of_query : Query-F Bool Bool Bool Bool Bool Bool Bool Bool Bool Bool Bool Bool → Bool
of_query query = query.body && (all query.order_by && if_written is_limit query.limit)

abbrev pub of_body : QueryBody-F Bool Bool Bool Bool Bool Bool Bool Bool Bool Bool Bool Bool → Bool
of_body (QueryBody-F.Select select) = select
of_body (QueryBody-F.Values rows) = all rows
of_body (QueryBody-F.SetOperation operator a b) = a && b

abbrev pub of_row : ValuesRow-F Bool Bool Bool Bool Bool Bool Bool Bool Bool Bool Bool Bool → Bool
of_row row = all row.values

abbrev pub of_select : Select-F Bool Bool Bool Bool Bool Bool Bool Bool Bool Bool Bool Bool → Bool
of_select s = all s.items && (all s.from && (if_is s.filter && (all s.group_by && if_is s.having)))

abbrev pub of_item : SelectItem-F Bool Bool Bool Bool Bool Bool Bool Bool Bool Bool Bool Bool → Bool
of_item (SelectItem-F.Every at) = true
of_item (SelectItem-F.One at shown alias) = shown && if_written is_identifier alias

abbrev pub of_from : FromItem-F Bool Bool Bool Bool Bool Bool Bool Bool Bool Bool Bool Bool → Bool
of_from from = from.table && all from.joins

abbrev pub of_table : TableReference-F Bool Bool Bool Bool Bool Bool Bool Bool Bool Bool Bool Bool → Bool
of_table (TableReference-F.Named name alias) = is_identifier name && if_written is_identifier alias
of_table (TableReference-F.Derived query alias) = query && is_identifier alias

abbrev pub of_join : Join-F Bool Bool Bool Bool Bool Bool Bool Bool Bool Bool Bool Bool → Bool
of_join (Join-F.Inner table on) = table && on
of_join (Join-F.Left table on) = table && on
of_join (Join-F.Cross table) = table

abbrev pub of_key : SortKey-F Bool Bool Bool Bool Bool Bool Bool Bool Bool Bool Bool Bool → Bool
of_key key = key.value

-- ---- whole trees

abbrev pub is_lawful : Expression → Bool
is_lawful = fold-Expression Bool Bool Bool Bool Bool Bool Bool Bool Bool Bool Bool Bool of_kind of_join of_body of_item of_table of_arm of_expression of_from of_query of_select of_key of_row

abbrev pub is_lawful_query : Query → Bool
is_lawful_query = fold-Query Bool Bool Bool Bool Bool Bool Bool Bool Bool Bool Bool Bool of_kind of_join of_body of_item of_table of_arm of_expression of_from of_query of_select of_key of_row

abbrev pub is_lawful_value : NewValue → Bool
is_lawful_value (value.Expression e) = is_lawful e
is_lawful_value (value.Default at) = true

abbrev pub is_lawful_source : InsertSource → Bool
is_lawful_source (source.Tuples tuples) = list_all (list_all is_lawful_value) tuples
is_lawful_source (source.Query query) = is_lawful_query query

abbrev pub is_lawful_assignment : Assignment → Bool
is_lawful_assignment a = is_identifier a.column && is_lawful_value a.value

abbrev pub is_lawful_lock : LockedTable → Bool
is_lawful_lock l = is_identifier l.table

abbrev pub is_lawful_key : ForeignKey → Bool
is_lawful_key k = is_identifier k.parent && list_all is_identifier k.parent_columns

abbrev pub is_lawful_column_rule : ColumnRule → Bool
is_lawful_column_rule (column.Check e) = is_lawful e
is_lawful_column_rule (column.References key) = is_lawful_key key
is_lawful_column_rule _ = true

abbrev pub is_lawful_column_constraint : ColumnConstraint → Bool
is_lawful_column_constraint c = if_written is_identifier c.name && is_lawful_column_rule c.rule

abbrev pub is_lawful_column : ColumnDefinition → Bool
is_lawful_column c = is_identifier c.name && (is_type c.data_type && (if_written is_default c.default && list_all is_lawful_column_constraint c.constraints))

abbrev pub is_lawful_table_rule : TableRule → Bool
is_lawful_table_rule (table.PrimaryKey columns) = list_all is_identifier columns
is_lawful_table_rule (table.Unique columns) = list_all is_identifier columns
is_lawful_table_rule (table.Check e) = is_lawful e
is_lawful_table_rule (table.ForeignKey columns key) = list_all is_identifier columns && is_lawful_key key

abbrev pub is_lawful_constraint : TableConstraint → Bool
is_lawful_constraint c = if_written is_identifier c.name && is_lawful_table_rule c.rule

abbrev pub is_lawful_element : TableElement → Bool
is_lawful_element (element.Column c) = is_lawful_column c
is_lawful_element (element.Constraint c) = is_lawful_constraint c

abbrev pub is_lawful_action : AlterAction → Bool
is_lawful_action (action.AddColumn c) = is_lawful_column c
is_lawful_action (action.AddConstraint c) = is_lawful_constraint c
is_lawful_action (action.DropConstraint name) = is_identifier name

abbrev pub is_lawful_statement : Stmt → Bool
is_lawful_statement (s.Query query) = is_lawful_query query
is_lawful_statement (s.Insert insert) = is_identifier insert.table && (list_all is_identifier insert.columns && is_lawful_source insert.source)
is_lawful_statement (s.Update update) = is_identifier update.table && (if_written is_identifier update.alias && (list_all is_lawful_assignment update.assignments && if_written is_lawful update.filter))
is_lawful_statement (s.Delete delete) = is_identifier delete.table && (if_written is_identifier delete.alias && if_written is_lawful delete.filter)
is_lawful_statement (s.LockTable tables) = list_all is_lawful_lock tables
is_lawful_statement (s.CreateTable create) = is_identifier create.name && list_all is_lawful_element create.elements
is_lawful_statement (s.CreateIndex create) = is_identifier create.name && (is_identifier create.table && list_all is_identifier create.columns)
is_lawful_statement (s.AlterTable alter) = is_identifier alter.table && is_lawful_action alter.action
is_lawful_statement (s.DropTable name) = is_identifier name
is_lawful_statement (s.DropIndex name) = is_identifier name
is_lawful_statement (s.Savepoint name) = is_name name
is_lawful_statement (s.RollbackTo name) = is_name name
is_lawful_statement (s.ReleaseSavepoint name) = is_name name
is_lawful_statement _ = true

abbrev pub IsLawful : Stmt → Type 0
IsLawful statement = is_lawful_statement statement ≡ true
