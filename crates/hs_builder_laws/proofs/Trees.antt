-- The depth of each kind of tree from those of its parts.
use Rattle.std.proofs.Common.{◌≡◌, ℕ, ◌+◌, Bool, List, [], ◌∷◌, map, Option, Some, None, ap, sym, ◌∙◌}
use Rattle.std.specs.Prelude.{max}
use Rattle.hs_ast.specs.Depth.{deepest, of_kind, of_join, of_body, of_item, of_table, of_arm, of_expression, of_from, of_query, of_select, of_key, of_row, depth_of, query_depth_of, filter_depth_of}
use Rattle.hs_ast.specs.declared.definition.DataType.{DataType}
use Rattle.hs_ast.specs.declared.expression.Aggregate.{Aggregate}
use Rattle.hs_ast.specs.declared.expression.BinaryOperator.{BinaryOperator}
use Rattle.hs_ast.specs.declared.expression.CaseArm.{CaseArm, fold-CaseArm, roll-CaseArm, fold-roll-CaseArm}
use Rattle.hs_ast.specs.declared.expression.ColumnName.{ColumnName}
use Rattle.hs_ast.specs.declared.expression.DateField.{DateField}
use Rattle.hs_ast.specs.declared.expression.Expression.{Expression, roll-Expression, fold-roll-Expression}
use Rattle.hs_ast.specs.declared.expression.ExpressionKind.{ExpressionKind, fold-ExpressionKind, fold-roll-ExpressionKind}
use Rattle.hs_ast.specs.declared.expression.ExpressionKind.TheOpen.{ExpressionKind-F, Join-F, QueryBody-F, SelectItem-F, TableReference-F}
use Rattle.hs_ast.specs.declared.expression.ExpressionKind.TheVariants as kind
use Rattle.hs_ast.specs.declared.expression.Function.{Function}
use Rattle.hs_ast.specs.declared.expression.IntervalUnit.{IntervalUnit}
use Rattle.hs_ast.specs.declared.expression.Sign.{Sign}
use Rattle.hs_ast.specs.declared.expression.TrimForm.{TrimForm}
use Rattle.hs_ast.specs.declared.literal.Literal.{Literal}
use Rattle.hs_ast.specs.declared.query.FromItem.{FromItem, fold-FromItem, roll-FromItem, fold-roll-FromItem}
use Rattle.hs_ast.specs.declared.query.Join.{Join, fold-Join, fold-roll-Join}
use Rattle.hs_ast.specs.declared.query.Join.TheVariants as join
use Rattle.hs_ast.specs.declared.query.Limit.{Limit}
use Rattle.hs_ast.specs.declared.query.Query.{Query, roll-Query, fold-roll-Query}
use Rattle.hs_ast.specs.declared.query.QueryBody.{QueryBody, fold-QueryBody, fold-roll-QueryBody}
use Rattle.hs_ast.specs.declared.query.QueryBody.TheVariants as body
use Rattle.hs_ast.specs.declared.query.Select.{Select, fold-Select, roll-Select, fold-roll-Select}
use Rattle.hs_ast.specs.declared.query.SelectItem.{SelectItem, fold-SelectItem, fold-roll-SelectItem}
use Rattle.hs_ast.specs.declared.query.SelectItem.TheVariants as shown
use Rattle.hs_ast.specs.declared.query.SetOperator.{SetOperator}
use Rattle.hs_ast.specs.declared.query.SortKey.{SortKey, fold-SortKey, roll-SortKey, fold-roll-SortKey}
use Rattle.hs_ast.specs.declared.query.TableReference.{TableReference, fold-TableReference, fold-roll-TableReference}
use Rattle.hs_ast.specs.declared.query.TableReference.TheVariants as table
use Rattle.hs_ast.specs.declared.query.ValuesRow.{ValuesRow, fold-ValuesRow, roll-ValuesRow, fold-roll-ValuesRow}
use Rattle.hs_ast.specs.declared.word.Identifier.{Identifier}

abbrev pub kind_depth : ExpressionKind → ℕ
kind_depth = fold-ExpressionKind ℕ ℕ ℕ ℕ ℕ ℕ ℕ ℕ ℕ ℕ ℕ ℕ of_kind of_join of_body of_item of_table of_arm of_expression of_from of_query of_select of_key of_row

abbrev pub arm_depth : CaseArm → ℕ
arm_depth = fold-CaseArm ℕ ℕ ℕ ℕ ℕ ℕ ℕ ℕ ℕ ℕ ℕ ℕ of_kind of_join of_body of_item of_table of_arm of_expression of_from of_query of_select of_key of_row

abbrev pub join_depth : Join → ℕ
join_depth = fold-Join ℕ ℕ ℕ ℕ ℕ ℕ ℕ ℕ ℕ ℕ ℕ ℕ of_kind of_join of_body of_item of_table of_arm of_expression of_from of_query of_select of_key of_row

abbrev pub body_depth : QueryBody → ℕ
body_depth = fold-QueryBody ℕ ℕ ℕ ℕ ℕ ℕ ℕ ℕ ℕ ℕ ℕ ℕ of_kind of_join of_body of_item of_table of_arm of_expression of_from of_query of_select of_key of_row

abbrev pub item_depth : SelectItem → ℕ
item_depth = fold-SelectItem ℕ ℕ ℕ ℕ ℕ ℕ ℕ ℕ ℕ ℕ ℕ ℕ of_kind of_join of_body of_item of_table of_arm of_expression of_from of_query of_select of_key of_row

abbrev pub table_depth : TableReference → ℕ
table_depth = fold-TableReference ℕ ℕ ℕ ℕ ℕ ℕ ℕ ℕ ℕ ℕ ℕ ℕ of_kind of_join of_body of_item of_table of_arm of_expression of_from of_query of_select of_key of_row

abbrev pub from_depth : FromItem → ℕ
from_depth = fold-FromItem ℕ ℕ ℕ ℕ ℕ ℕ ℕ ℕ ℕ ℕ ℕ ℕ of_kind of_join of_body of_item of_table of_arm of_expression of_from of_query of_select of_key of_row

abbrev pub select_depth : Select → ℕ
select_depth = fold-Select ℕ ℕ ℕ ℕ ℕ ℕ ℕ ℕ ℕ ℕ ℕ ℕ of_kind of_join of_body of_item of_table of_arm of_expression of_from of_query of_select of_key of_row

abbrev pub key_depth : SortKey → ℕ
key_depth = fold-SortKey ℕ ℕ ℕ ℕ ℕ ℕ ℕ ℕ ℕ ℕ ℕ ℕ of_kind of_join of_body of_item of_table of_arm of_expression of_from of_query of_select of_key of_row

abbrev pub row_depth : ValuesRow → ℕ
row_depth = fold-ValuesRow ℕ ℕ ℕ ℕ ℕ ℕ ℕ ℕ ℕ ℕ ℕ ℕ of_kind of_join of_body of_item of_table of_arm of_expression of_from of_query of_select of_key of_row

-- ---- expressions

pub expression_is : (at : ℕ) (k : ExpressionKind) → depth_of (roll-Expression (record { at = at; kind = k })) ≡ kind_depth k
expression_is at k = fold-roll-Expression ℕ ℕ ℕ ℕ ℕ ℕ ℕ ℕ ℕ ℕ ℕ ℕ of_kind of_join of_body of_item of_table of_arm of_expression of_from of_query of_select of_key of_row (record { at = at; kind = k })

pub literal_is : (l : Literal) → kind_depth (kind.Literal l) ≡ 0
literal_is l = ap kind_depth (sym (kind.rolls-Literal l)) ∙ fold-roll-ExpressionKind ℕ ℕ ℕ ℕ ℕ ℕ ℕ ℕ ℕ ℕ ℕ ℕ of_kind of_join of_body of_item of_table of_arm of_expression of_from of_query of_select of_key of_row (ExpressionKind-F.Literal l)

pub column_is : (name : ColumnName) → kind_depth (kind.Column name) ≡ 0
column_is name = ap kind_depth (sym (kind.rolls-Column name)) ∙ fold-roll-ExpressionKind ℕ ℕ ℕ ℕ ℕ ℕ ℕ ℕ ℕ ℕ ℕ ℕ of_kind of_join of_body of_item of_table of_arm of_expression of_from of_query of_select of_key of_row (ExpressionKind-F.Column name)

pub signed_is : (sign : Sign) (a : Expression) → kind_depth (kind.Signed sign a) ≡ depth_of a + 1
signed_is sign a = ap kind_depth (sym (kind.rolls-Signed sign a)) ∙ fold-roll-ExpressionKind ℕ ℕ ℕ ℕ ℕ ℕ ℕ ℕ ℕ ℕ ℕ ℕ of_kind of_join of_body of_item of_table of_arm of_expression of_from of_query of_select of_key of_row (ExpressionKind-F.Signed sign a)

pub not_is : (a : Expression) → kind_depth (kind.Not a) ≡ depth_of a + 1
not_is a = ap kind_depth (sym (kind.rolls-Not a)) ∙ fold-roll-ExpressionKind ℕ ℕ ℕ ℕ ℕ ℕ ℕ ℕ ℕ ℕ ℕ ℕ of_kind of_join of_body of_item of_table of_arm of_expression of_from of_query of_select of_key of_row (ExpressionKind-F.Not a)

pub binary_is : (operator : BinaryOperator) (a b : Expression) → kind_depth (kind.Binary operator a b) ≡ max (depth_of a) (depth_of b) + 1
binary_is operator a b = ap kind_depth (sym (kind.rolls-Binary operator a b)) ∙ fold-roll-ExpressionKind ℕ ℕ ℕ ℕ ℕ ℕ ℕ ℕ ℕ ℕ ℕ ℕ of_kind of_join of_body of_item of_table of_arm of_expression of_from of_query of_select of_key of_row (ExpressionKind-F.Binary operator a b)

pub is_null_is : (a : Expression) (negated : Bool) → kind_depth (kind.IsNull a negated) ≡ depth_of a + 1
is_null_is a negated = ap kind_depth (sym (kind.rolls-IsNull a negated)) ∙ fold-roll-ExpressionKind ℕ ℕ ℕ ℕ ℕ ℕ ℕ ℕ ℕ ℕ ℕ ℕ of_kind of_join of_body of_item of_table of_arm of_expression of_from of_query of_select of_key of_row (ExpressionKind-F.IsNull a negated)

pub between_is : (a : Expression) (negated : Bool) (low high : Expression) → kind_depth (kind.Between a negated low high) ≡ deepest (depth_of a ∷ depth_of low ∷ depth_of high ∷ []) + 1
between_is a negated low high = ap kind_depth (sym (kind.rolls-Between a negated low high)) ∙ fold-roll-ExpressionKind ℕ ℕ ℕ ℕ ℕ ℕ ℕ ℕ ℕ ℕ ℕ ℕ of_kind of_join of_body of_item of_table of_arm of_expression of_from of_query of_select of_key of_row (ExpressionKind-F.Between a negated low high)

pub in_list_is : (a : Expression) (negated : Bool) (list : List Expression) → kind_depth (kind.InList a negated list) ≡ deepest (depth_of a ∷ map depth_of list) + 1
in_list_is a negated list = ap kind_depth (sym (kind.rolls-InList a negated list)) ∙ fold-roll-ExpressionKind ℕ ℕ ℕ ℕ ℕ ℕ ℕ ℕ ℕ ℕ ℕ ℕ of_kind of_join of_body of_item of_table of_arm of_expression of_from of_query of_select of_key of_row (ExpressionKind-F.InList a negated list)

pub in_query_is : (a : Expression) (negated : Bool) (query : Query) → kind_depth (kind.InQuery a negated query) ≡ max (depth_of a) (query_depth_of query) + 1
in_query_is a negated query = ap kind_depth (sym (kind.rolls-InQuery a negated query)) ∙ fold-roll-ExpressionKind ℕ ℕ ℕ ℕ ℕ ℕ ℕ ℕ ℕ ℕ ℕ ℕ of_kind of_join of_body of_item of_table of_arm of_expression of_from of_query of_select of_key of_row (ExpressionKind-F.InQuery a negated query)

pub like_is : (a : Expression) (negated : Bool) (pattern : Expression) (escape : Option (List ℕ)) → kind_depth (kind.Like a negated pattern escape) ≡ max (depth_of a) (depth_of pattern) + 1
like_is a negated pattern escape = ap kind_depth (sym (kind.rolls-Like a negated pattern escape)) ∙ fold-roll-ExpressionKind ℕ ℕ ℕ ℕ ℕ ℕ ℕ ℕ ℕ ℕ ℕ ℕ of_kind of_join of_body of_item of_table of_arm of_expression of_from of_query of_select of_key of_row (ExpressionKind-F.Like a negated pattern escape)

pub exists_is : (query : Query) → kind_depth (kind.Exists query) ≡ query_depth_of query + 1
exists_is query = ap kind_depth (sym (kind.rolls-Exists query)) ∙ fold-roll-ExpressionKind ℕ ℕ ℕ ℕ ℕ ℕ ℕ ℕ ℕ ℕ ℕ ℕ of_kind of_join of_body of_item of_table of_arm of_expression of_from of_query of_select of_key of_row (ExpressionKind-F.Exists query)

pub subquery_is : (query : Query) → kind_depth (kind.Subquery query) ≡ query_depth_of query
subquery_is query = ap kind_depth (sym (kind.rolls-Subquery query)) ∙ fold-roll-ExpressionKind ℕ ℕ ℕ ℕ ℕ ℕ ℕ ℕ ℕ ℕ ℕ ℕ of_kind of_join of_body of_item of_table of_arm of_expression of_from of_query of_select of_key of_row (ExpressionKind-F.Subquery query)

pub cast_is : (a : Expression) (t : DataType) → kind_depth (kind.Cast a t) ≡ depth_of a + 1
cast_is a t = ap kind_depth (sym (kind.rolls-Cast a t)) ∙ fold-roll-ExpressionKind ℕ ℕ ℕ ℕ ℕ ℕ ℕ ℕ ℕ ℕ ℕ ℕ of_kind of_join of_body of_item of_table of_arm of_expression of_from of_query of_select of_key of_row (ExpressionKind-F.Cast a t)

pub case_none_is : (arms : List CaseArm) → kind_depth (kind.Case arms None) ≡ max (deepest (map arm_depth arms)) 0 + 1
case_none_is arms = ap kind_depth (sym (kind.rolls-Case arms None)) ∙ fold-roll-ExpressionKind ℕ ℕ ℕ ℕ ℕ ℕ ℕ ℕ ℕ ℕ ℕ ℕ of_kind of_join of_body of_item of_table of_arm of_expression of_from of_query of_select of_key of_row (ExpressionKind-F.Case arms None)

pub case_some_is : (arms : List CaseArm) (otherwise : Expression) → kind_depth (kind.Case arms (Some otherwise)) ≡ max (deepest (map arm_depth arms)) (depth_of otherwise) + 1
case_some_is arms otherwise = ap kind_depth (sym (kind.rolls-Case arms (Some otherwise))) ∙ fold-roll-ExpressionKind ℕ ℕ ℕ ℕ ℕ ℕ ℕ ℕ ℕ ℕ ℕ ℕ of_kind of_join of_body of_item of_table of_arm of_expression of_from of_query of_select of_key of_row (ExpressionKind-F.Case arms (Some otherwise))

pub call_is : (function : Function) (arguments : List Expression) → kind_depth (kind.Call function arguments) ≡ deepest (map depth_of arguments) + 1
call_is function arguments = ap kind_depth (sym (kind.rolls-Call function arguments)) ∙ fold-roll-ExpressionKind ℕ ℕ ℕ ℕ ℕ ℕ ℕ ℕ ℕ ℕ ℕ ℕ of_kind of_join of_body of_item of_table of_arm of_expression of_from of_query of_select of_key of_row (ExpressionKind-F.Call function arguments)

pub substring_none_is : (text start : Expression) → kind_depth (kind.Substring text start None) ≡ deepest (depth_of text ∷ depth_of start ∷ 0 ∷ []) + 1
substring_none_is text start = ap kind_depth (sym (kind.rolls-Substring text start None)) ∙ fold-roll-ExpressionKind ℕ ℕ ℕ ℕ ℕ ℕ ℕ ℕ ℕ ℕ ℕ ℕ of_kind of_join of_body of_item of_table of_arm of_expression of_from of_query of_select of_key of_row (ExpressionKind-F.Substring text start None)

pub substring_some_is : (text start count : Expression) → kind_depth (kind.Substring text start (Some count)) ≡ deepest (depth_of text ∷ depth_of start ∷ depth_of count ∷ []) + 1
substring_some_is text start count = ap kind_depth (sym (kind.rolls-Substring text start (Some count))) ∙ fold-roll-ExpressionKind ℕ ℕ ℕ ℕ ℕ ℕ ℕ ℕ ℕ ℕ ℕ ℕ of_kind of_join of_body of_item of_table of_arm of_expression of_from of_query of_select of_key of_row (ExpressionKind-F.Substring text start (Some count))

pub trim_none_is : (manner : TrimForm) (text : Expression) → kind_depth (kind.Trim manner None text) ≡ max 0 (depth_of text) + 1
trim_none_is manner text = ap kind_depth (sym (kind.rolls-Trim manner None text)) ∙ fold-roll-ExpressionKind ℕ ℕ ℕ ℕ ℕ ℕ ℕ ℕ ℕ ℕ ℕ ℕ of_kind of_join of_body of_item of_table of_arm of_expression of_from of_query of_select of_key of_row (ExpressionKind-F.Trim manner None text)

pub trim_some_is : (manner : TrimForm) (character text : Expression) → kind_depth (kind.Trim manner (Some character) text) ≡ max (depth_of character) (depth_of text) + 1
trim_some_is manner character text = ap kind_depth (sym (kind.rolls-Trim manner (Some character) text)) ∙ fold-roll-ExpressionKind ℕ ℕ ℕ ℕ ℕ ℕ ℕ ℕ ℕ ℕ ℕ ℕ of_kind of_join of_body of_item of_table of_arm of_expression of_from of_query of_select of_key of_row (ExpressionKind-F.Trim manner (Some character) text)

pub extract_is : (field : DateField) (a : Expression) → kind_depth (kind.Extract field a) ≡ depth_of a + 1
extract_is field a = ap kind_depth (sym (kind.rolls-Extract field a)) ∙ fold-roll-ExpressionKind ℕ ℕ ℕ ℕ ℕ ℕ ℕ ℕ ℕ ℕ ℕ ℕ of_kind of_join of_body of_item of_table of_arm of_expression of_from of_query of_select of_key of_row (ExpressionKind-F.Extract field a)

pub interval_is : (a : Expression) (sign : Sign) (count : ℕ) (unit : IntervalUnit) → kind_depth (kind.Interval a sign count unit) ≡ depth_of a + 1
interval_is a sign count unit = ap kind_depth (sym (kind.rolls-Interval a sign count unit)) ∙ fold-roll-ExpressionKind ℕ ℕ ℕ ℕ ℕ ℕ ℕ ℕ ℕ ℕ ℕ ℕ of_kind of_join of_body of_item of_table of_arm of_expression of_from of_query of_select of_key of_row (ExpressionKind-F.Interval a sign count unit)

pub count_rows_is : kind_depth kind.CountRows ≡ 1
count_rows_is = ap kind_depth (sym (kind.rolls-CountRows)) ∙ fold-roll-ExpressionKind ℕ ℕ ℕ ℕ ℕ ℕ ℕ ℕ ℕ ℕ ℕ ℕ of_kind of_join of_body of_item of_table of_arm of_expression of_from of_query of_select of_key of_row ExpressionKind-F.CountRows

pub aggregate_is : (function : Aggregate) (distinct : Bool) (a : Expression) → kind_depth (kind.Aggregate function distinct a) ≡ depth_of a + 1
aggregate_is function distinct a = ap kind_depth (sym (kind.rolls-Aggregate function distinct a)) ∙ fold-roll-ExpressionKind ℕ ℕ ℕ ℕ ℕ ℕ ℕ ℕ ℕ ℕ ℕ ℕ of_kind of_join of_body of_item of_table of_arm of_expression of_from of_query of_select of_key of_row (ExpressionKind-F.Aggregate function distinct a)

pub arm_is : (test value : Expression) → arm_depth (roll-CaseArm (record { test = test; value = value })) ≡ max (depth_of test) (depth_of value)
arm_is test value = fold-roll-CaseArm ℕ ℕ ℕ ℕ ℕ ℕ ℕ ℕ ℕ ℕ ℕ ℕ of_kind of_join of_body of_item of_table of_arm of_expression of_from of_query of_select of_key of_row (record { test = test; value = value })

-- ---- queries

pub query_is : (at : ℕ) (b : QueryBody) (keys : List SortKey) (l : Option Limit) → query_depth_of (roll-Query (record { at = at; body = b; order_by = keys; limit = l })) ≡ max (body_depth b) (deepest (map key_depth keys)) + 1
query_is at b keys l = fold-roll-Query ℕ ℕ ℕ ℕ ℕ ℕ ℕ ℕ ℕ ℕ ℕ ℕ of_kind of_join of_body of_item of_table of_arm of_expression of_from of_query of_select of_key of_row (record { at = at; body = b; order_by = keys; limit = l })

pub key_is : (at : ℕ) (e : Expression) (descending : Bool) → key_depth (roll-SortKey (record { at = at; value = e; descending = descending })) ≡ depth_of e
key_is at e descending = fold-roll-SortKey ℕ ℕ ℕ ℕ ℕ ℕ ℕ ℕ ℕ ℕ ℕ ℕ of_kind of_join of_body of_item of_table of_arm of_expression of_from of_query of_select of_key of_row (record { at = at; value = e; descending = descending })

pub row_is : (values : List Expression) → row_depth (roll-ValuesRow (record { values = values })) ≡ deepest (map depth_of values)
row_is values = fold-roll-ValuesRow ℕ ℕ ℕ ℕ ℕ ℕ ℕ ℕ ℕ ℕ ℕ ℕ of_kind of_join of_body of_item of_table of_arm of_expression of_from of_query of_select of_key of_row (record { values = values })

pub select_body_is : (s : Select) → body_depth (body.Select s) ≡ select_depth s
select_body_is s = ap body_depth (sym (body.rolls-Select s)) ∙ fold-roll-QueryBody ℕ ℕ ℕ ℕ ℕ ℕ ℕ ℕ ℕ ℕ ℕ ℕ of_kind of_join of_body of_item of_table of_arm of_expression of_from of_query of_select of_key of_row (QueryBody-F.Select s)

pub values_body_is : (rows : List ValuesRow) → body_depth (body.Values rows) ≡ deepest (map row_depth rows)
values_body_is rows = ap body_depth (sym (body.rolls-Values rows)) ∙ fold-roll-QueryBody ℕ ℕ ℕ ℕ ℕ ℕ ℕ ℕ ℕ ℕ ℕ ℕ of_kind of_join of_body of_item of_table of_arm of_expression of_from of_query of_select of_key of_row (QueryBody-F.Values rows)

pub set_operation_is : (operator : SetOperator) (a b : QueryBody) → body_depth (body.SetOperation operator a b) ≡ max (body_depth a) (body_depth b) + 1
set_operation_is operator a b = ap body_depth (sym (body.rolls-SetOperation operator a b)) ∙ fold-roll-QueryBody ℕ ℕ ℕ ℕ ℕ ℕ ℕ ℕ ℕ ℕ ℕ ℕ of_kind of_join of_body of_item of_table of_arm of_expression of_from of_query of_select of_key of_row (QueryBody-F.SetOperation operator a b)

pub every_is : (at : ℕ) → item_depth (shown.Every at) ≡ 0
every_is at = ap item_depth (sym (shown.rolls-Every at)) ∙ fold-roll-SelectItem ℕ ℕ ℕ ℕ ℕ ℕ ℕ ℕ ℕ ℕ ℕ ℕ of_kind of_join of_body of_item of_table of_arm of_expression of_from of_query of_select of_key of_row (SelectItem-F.Every at)

pub one_is : (at : ℕ) (e : Expression) (alias : Option Identifier) → item_depth (shown.One at e alias) ≡ depth_of e
one_is at e alias = ap item_depth (sym (shown.rolls-One at e alias)) ∙ fold-roll-SelectItem ℕ ℕ ℕ ℕ ℕ ℕ ℕ ℕ ℕ ℕ ℕ ℕ of_kind of_join of_body of_item of_table of_arm of_expression of_from of_query of_select of_key of_row (SelectItem-F.One at e alias)

pub named_is : (name : Identifier) (alias : Option Identifier) → table_depth (table.Named name alias) ≡ 0
named_is name alias = ap table_depth (sym (table.rolls-Named name alias)) ∙ fold-roll-TableReference ℕ ℕ ℕ ℕ ℕ ℕ ℕ ℕ ℕ ℕ ℕ ℕ of_kind of_join of_body of_item of_table of_arm of_expression of_from of_query of_select of_key of_row (TableReference-F.Named name alias)

pub derived_is : (query : Query) (alias : Identifier) → table_depth (table.Derived query alias) ≡ query_depth_of query
derived_is query alias = ap table_depth (sym (table.rolls-Derived query alias)) ∙ fold-roll-TableReference ℕ ℕ ℕ ℕ ℕ ℕ ℕ ℕ ℕ ℕ ℕ ℕ of_kind of_join of_body of_item of_table of_arm of_expression of_from of_query of_select of_key of_row (TableReference-F.Derived query alias)

pub inner_is : (t : TableReference) (on : Expression) → join_depth (join.Inner t on) ≡ max (table_depth t) (depth_of on)
inner_is t on = ap join_depth (sym (join.rolls-Inner t on)) ∙ fold-roll-Join ℕ ℕ ℕ ℕ ℕ ℕ ℕ ℕ ℕ ℕ ℕ ℕ of_kind of_join of_body of_item of_table of_arm of_expression of_from of_query of_select of_key of_row (Join-F.Inner t on)

pub left_is : (t : TableReference) (on : Expression) → join_depth (join.Left t on) ≡ max (table_depth t) (depth_of on)
left_is t on = ap join_depth (sym (join.rolls-Left t on)) ∙ fold-roll-Join ℕ ℕ ℕ ℕ ℕ ℕ ℕ ℕ ℕ ℕ ℕ ℕ of_kind of_join of_body of_item of_table of_arm of_expression of_from of_query of_select of_key of_row (Join-F.Left t on)

pub cross_is : (t : TableReference) → join_depth (join.Cross t) ≡ table_depth t
cross_is t = ap join_depth (sym (join.rolls-Cross t)) ∙ fold-roll-Join ℕ ℕ ℕ ℕ ℕ ℕ ℕ ℕ ℕ ℕ ℕ ℕ of_kind of_join of_body of_item of_table of_arm of_expression of_from of_query of_select of_key of_row (Join-F.Cross t)

pub from_is : (t : TableReference) (joins : List Join) → from_depth (roll-FromItem (record { table = t; joins = joins })) ≡ max (table_depth t) (deepest (map join_depth joins))
from_is t joins = fold-roll-FromItem ℕ ℕ ℕ ℕ ℕ ℕ ℕ ℕ ℕ ℕ ℕ ℕ of_kind of_join of_body of_item of_table of_arm of_expression of_from of_query of_select of_key of_row (record { table = t; joins = joins })

pub select_is : (distinct : Bool) (items : List SelectItem) (from : List FromItem) (filter : Option Expression) (group : List Expression) (having : Option Expression) →
    select_depth (roll-Select (record { distinct = distinct; items = items; from = from; filter = filter; group_by = group; having = having })) ≡ deepest (deepest (map item_depth items) ∷ deepest (map from_depth from) ∷ filter_depth_of filter ∷ deepest (map depth_of group) ∷ filter_depth_of having ∷ [])
select_is distinct items from None group None = fold-roll-Select ℕ ℕ ℕ ℕ ℕ ℕ ℕ ℕ ℕ ℕ ℕ ℕ of_kind of_join of_body of_item of_table of_arm of_expression of_from of_query of_select of_key of_row (record { distinct = distinct; items = items; from = from; filter = None; group_by = group; having = None })
select_is distinct items from None group (Some v) = fold-roll-Select ℕ ℕ ℕ ℕ ℕ ℕ ℕ ℕ ℕ ℕ ℕ ℕ of_kind of_join of_body of_item of_table of_arm of_expression of_from of_query of_select of_key of_row (record { distinct = distinct; items = items; from = from; filter = None; group_by = group; having = Some v })
select_is distinct items from (Some w) group None = fold-roll-Select ℕ ℕ ℕ ℕ ℕ ℕ ℕ ℕ ℕ ℕ ℕ ℕ of_kind of_join of_body of_item of_table of_arm of_expression of_from of_query of_select of_key of_row (record { distinct = distinct; items = items; from = from; filter = Some w; group_by = group; having = None })
select_is distinct items from (Some w) group (Some v) = fold-roll-Select ℕ ℕ ℕ ℕ ℕ ℕ ℕ ℕ ℕ ℕ ℕ ℕ of_kind of_join of_body of_item of_table of_arm of_expression of_from of_query of_select of_key of_row (record { distinct = distinct; items = items; from = from; filter = Some w; group_by = group; having = Some v })
