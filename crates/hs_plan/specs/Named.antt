-- The tables that a statement names to be read, as often as it does.
use Rattle.std.specs.Prelude.{Bool, List, [], ◌∷◌, ◌++◌, Option, None, Some, map, unwrap_or, if◌then◌else◌}
use Rattle.hs_base.specs.declared.numbers.TableNo.{TableNo}
use Rattle.hs_plan.specs.declared.expression.Expr.TheOpen.{Expr-F, Join-F, Key-F, QueryBody-F, Source-F, CaseArm-F, ListItem-F, FromItem-F, Query-F, Select-F, SortKey-F, ValuesRow-F}
use Rattle.hs_plan.specs.declared.expression.Expr.{Expr, fold-Expr}
use Rattle.hs_plan.specs.declared.query.Join.{Join, fold-Join}
use Rattle.hs_plan.specs.declared.query.Key.{Key, fold-Key}
use Rattle.hs_plan.specs.declared.query.QueryBody.{QueryBody, fold-QueryBody}
use Rattle.hs_plan.specs.declared.query.Source.{Source, fold-Source}
use Rattle.hs_plan.specs.declared.expression.CaseArm.{CaseArm, fold-CaseArm}
use Rattle.hs_plan.specs.declared.query.FromItem.{FromItem, fold-FromItem}
use Rattle.hs_plan.specs.declared.expression.ListItem.{ListItem, fold-ListItem}
use Rattle.hs_plan.specs.declared.query.Query.{Query, fold-Query}
use Rattle.hs_plan.specs.declared.query.Select.{Select, fold-Select}
use Rattle.hs_plan.specs.declared.query.SortKey.{SortKey, fold-SortKey}
use Rattle.hs_plan.specs.declared.query.ValuesRow.{ValuesRow, fold-ValuesRow}
use Rattle.hs_plan.specs.declared.plan.Assignment.{Assignment}
use Rattle.hs_plan.specs.declared.plan.InsertSource.{InsertSource}
use Rattle.hs_plan.specs.declared.plan.InsertSource.TheVariants as source
use Rattle.hs_plan.specs.declared.plan.LockedTable.{LockedTable}
use Rattle.hs_plan.specs.declared.plan.NewValue.{NewValue}
use Rattle.hs_plan.specs.declared.plan.NewValue.TheVariants as value
use Rattle.hs_plan.specs.declared.plan.Plan.{Plan}
use Rattle.hs_plan.specs.declared.plan.Plan.TheVariants as p

abbrev pub Found : Type 0
Found = List TableNo

abbrev pub concat : List Found → Found
concat [] = []
concat (x ∷ xs) = x ++ concat xs

abbrev pub if_written : Option Found → Found
if_written tables = unwrap_or tables []

-- ---- one layer, with what its parts name in their places

abbrev pub of_expression : Expr-F Found Found Found Found Found Found Found Found Found Found Found Found → Found
of_expression (Expr-F.Literal x) = []
of_expression (Expr-F.ReadText text reading) = []
of_expression (Expr-F.BadMoment timestamp text) = []
of_expression (Expr-F.Column outward at) = []
of_expression (Expr-F.Unary operator a) = a
of_expression (Expr-F.Binary operator a b) = a ++ b
of_expression (Expr-F.Ternary operator a b c) = a ++ b ++ c
of_expression (Expr-F.InList a negated list) = a ++ concat list
of_expression (Expr-F.InQuery a negated query) = a ++ query
of_expression (Expr-F.Exists query) = query
of_expression (Expr-F.Subquery query) = query
of_expression (Expr-F.Case kind arms otherwise) = concat arms ++ if_written otherwise
of_expression (Expr-F.Coalesce kind operands) = concat operands
of_expression Expr-F.CountRows = []
of_expression (Expr-F.Aggregate function distinct a) = a

abbrev pub of_list_item : ListItem-F Found Found Found Found Found Found Found Found Found Found Found Found → Found
of_list_item item = item.value

abbrev pub of_arm : CaseArm-F Found Found Found Found Found Found Found Found Found Found Found Found → Found
of_arm arm = arm.test ++ arm.value

abbrev pub of_query : Query-F Found Found Found Found Found Found Found Found Found Found Found Found → Found
of_query query = query.body ++ concat query.order_by

abbrev pub of_body : QueryBody-F Found Found Found Found Found Found Found Found Found Found Found Found → Found
of_body (QueryBody-F.Select select) = select
of_body (QueryBody-F.Values kinds rows) = concat rows
of_body (QueryBody-F.SetOperation operator kinds left right) = left ++ right

abbrev pub of_row : ValuesRow-F Found Found Found Found Found Found Found Found Found Found Found Found → Found
of_row row = concat row.values

abbrev pub of_select : Select-F Found Found Found Found Found Found Found Found Found Found Found Found → Found
of_select s = concat s.from ++ if_written s.filter ++ concat s.group_by ++ if_written s.having ++ concat s.items

abbrev pub of_from : FromItem-F Found Found Found Found Found Found Found Found Found Found Found Found → Found
of_from from = from.source ++ concat from.joins

abbrev pub of_source : Source-F Found Found Found Found Found Found Found Found Found Found Found Found → Found
of_source (Source-F.Table table width) = table ∷ []
of_source (Source-F.Derived query width) = query

abbrev pub of_join : Join-F Found Found Found Found Found Found Found Found Found Found Found Found → Found
of_join (Join-F.Inner source on) = source ++ on
of_join (Join-F.Left source on) = source ++ on
of_join (Join-F.Cross source) = source

abbrev pub of_sort_key : SortKey-F Found Found Found Found Found Found Found Found Found Found Found Found → Found
of_sort_key k = k.key

abbrev pub of_key : Key-F Found Found Found Found Found Found Found Found Found Found Found Found → Found
of_key (Key-F.Output at) = []
of_key (Key-F.Value a) = a

-- ---- whole trees

abbrev pub named : Expr → Found
named = fold-Expr Found Found Found Found Found Found Found Found Found Found Found Found of_expression of_join of_key of_body of_source of_arm of_list_item of_from of_query of_select of_sort_key of_row

abbrev pub named_in_query : Query → Found
named_in_query = fold-Query Found Found Found Found Found Found Found Found Found Found Found Found of_expression of_join of_key of_body of_source of_arm of_list_item of_from of_query of_select of_sort_key of_row

abbrev pub named_in_body : QueryBody → Found
named_in_body = fold-QueryBody Found Found Found Found Found Found Found Found Found Found Found Found of_expression of_join of_key of_body of_source of_arm of_list_item of_from of_query of_select of_sort_key of_row

abbrev pub named_in_item : ListItem → Found
named_in_item = fold-ListItem Found Found Found Found Found Found Found Found Found Found Found Found of_expression of_join of_key of_body of_source of_arm of_list_item of_from of_query of_select of_sort_key of_row

abbrev pub named_in_arm : CaseArm → Found
named_in_arm = fold-CaseArm Found Found Found Found Found Found Found Found Found Found Found Found of_expression of_join of_key of_body of_source of_arm of_list_item of_from of_query of_select of_sort_key of_row

abbrev pub named_in_row : ValuesRow → Found
named_in_row = fold-ValuesRow Found Found Found Found Found Found Found Found Found Found Found Found of_expression of_join of_key of_body of_source of_arm of_list_item of_from of_query of_select of_sort_key of_row

abbrev pub named_in_select : Select → Found
named_in_select = fold-Select Found Found Found Found Found Found Found Found Found Found Found Found of_expression of_join of_key of_body of_source of_arm of_list_item of_from of_query of_select of_sort_key of_row

abbrev pub named_in_from : FromItem → Found
named_in_from = fold-FromItem Found Found Found Found Found Found Found Found Found Found Found Found of_expression of_join of_key of_body of_source of_arm of_list_item of_from of_query of_select of_sort_key of_row

abbrev pub named_in_source : Source → Found
named_in_source = fold-Source Found Found Found Found Found Found Found Found Found Found Found Found of_expression of_join of_key of_body of_source of_arm of_list_item of_from of_query of_select of_sort_key of_row

abbrev pub named_in_join : Join → Found
named_in_join = fold-Join Found Found Found Found Found Found Found Found Found Found Found Found of_expression of_join of_key of_body of_source of_arm of_list_item of_from of_query of_select of_sort_key of_row

abbrev pub named_in_sort_key : SortKey → Found
named_in_sort_key = fold-SortKey Found Found Found Found Found Found Found Found Found Found Found Found of_expression of_join of_key of_body of_source of_arm of_list_item of_from of_query of_select of_sort_key of_row

abbrev pub named_in_key : Key → Found
named_in_key = fold-Key Found Found Found Found Found Found Found Found Found Found Found Found of_expression of_join of_key of_body of_source of_arm of_list_item of_from of_query of_select of_sort_key of_row

-- ---- statements

abbrev pub named_if_written : Option Expr → Found
named_if_written None = []
named_if_written (Some e) = named e

abbrev pub named_in_value : NewValue → Found
named_in_value (value.Value e) = named e
named_in_value value.Default = []

abbrev pub named_in_tuple : List NewValue → Found
named_in_tuple values = concat (map named_in_value values)

abbrev pub named_in_insert : InsertSource → Found
named_in_insert (source.Tuples tuples) = concat (map named_in_tuple tuples)
named_in_insert (source.Query query) = named_in_query query

abbrev pub named_in_assignment : Assignment → Found
named_in_assignment a = named_in_value a.value

abbrev pub read_by_lock : LockedTable → Found
read_by_lock l = if l.write then [] else l.table ∷ []

-- the tables that queries and WHERE name, and those that are locked for READ
abbrev pub named_in_plan : Plan → Found
named_in_plan (p.Query query) = named_in_query query
named_in_plan (p.Insert insert) = named_in_insert insert.source
named_in_plan (p.Update update) = concat (map named_in_assignment update.assignments) ++ named_if_written update.filter
named_in_plan (p.Delete delete) = named_if_written delete.filter
named_in_plan (p.LockTable all) = concat (map read_by_lock all)
named_in_plan (p.Define definition) = []
named_in_plan (p.Session statement) = []
