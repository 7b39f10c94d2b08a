-- What a query answers over tables.
use Rattle.std.specs.Prelude.{List, [], Result}
use Rattle.hs_plan.specs.declared.expression.CaseArm.{CaseArm, fold-CaseArm}
use Rattle.hs_plan.specs.declared.expression.Expr.{Expr, fold-Expr}
use Rattle.hs_plan.specs.declared.expression.ListItem.{ListItem, fold-ListItem}
use Rattle.hs_plan.specs.declared.query.FromItem.{FromItem, fold-FromItem}
use Rattle.hs_plan.specs.declared.query.Join.{Join, fold-Join}
use Rattle.hs_plan.specs.declared.query.Key.{Key, fold-Key}
use Rattle.hs_plan.specs.declared.query.Query.{Query, fold-Query}
use Rattle.hs_plan.specs.declared.query.QueryBody.{QueryBody, fold-QueryBody}
use Rattle.hs_plan.specs.declared.query.Select.{Select, fold-Select}
use Rattle.hs_plan.specs.declared.query.SortKey.{SortKey, fold-SortKey}
use Rattle.hs_plan.specs.declared.query.Source.{Source, fold-Source}
use Rattle.hs_plan.specs.declared.query.ValuesRow.{ValuesRow, fold-ValuesRow}
use Rattle.hs_values.specs.declared.fault.EvalFault.{EvalFault}
use Rattle.hs_values.specs.declared.value.Value.{Value}
use Rattle.hs_changes.specs.Settings.{Maps}
use Rattle.hs_expression.specs.Numbers.{Outcome}
use Rattle.hs_expression.specs.Expression.{Arm, Listed, of_arm, of_expression, of_item}
use Rattle.hs_expression.specs.Surroundings.{Answered, Rows, Valued}
use Rattle.hs_answer.specs.Bodies.{of_body, of_row}
use Rattle.hs_answer.specs.From.{of_element, of_join, of_source}
use Rattle.hs_answer.specs.Layers.{Bodied, Joining, Keyed, SortBy, Sourced}
use Rattle.hs_answer.specs.Order.{of_key, of_query, of_sort_key}
use Rattle.hs_answer.specs.Places.{over_row}
use Rattle.hs_answer.specs.Selects.{of_select}

-- ---- trees, in what stands around them

abbrev pub value_in : Maps → Expr → Valued
value_in tables = fold-Expr Valued Joining Keyed Bodied Sourced Arm Listed Answered Answered Bodied SortBy (List Valued) of_expression of_join of_key of_body (of_source tables) of_arm of_item of_element of_query of_select of_sort_key of_row

abbrev pub join_in : Maps → Join → Joining
join_in tables = fold-Join Valued Joining Keyed Bodied Sourced Arm Listed Answered Answered Bodied SortBy (List Valued) of_expression of_join of_key of_body (of_source tables) of_arm of_item of_element of_query of_select of_sort_key of_row

abbrev pub key_in : Maps → Key → Keyed
key_in tables = fold-Key Valued Joining Keyed Bodied Sourced Arm Listed Answered Answered Bodied SortBy (List Valued) of_expression of_join of_key of_body (of_source tables) of_arm of_item of_element of_query of_select of_sort_key of_row

abbrev pub body_in : Maps → QueryBody → Bodied
body_in tables = fold-QueryBody Valued Joining Keyed Bodied Sourced Arm Listed Answered Answered Bodied SortBy (List Valued) of_expression of_join of_key of_body (of_source tables) of_arm of_item of_element of_query of_select of_sort_key of_row

abbrev pub source_in : Maps → Source → Sourced
source_in tables = fold-Source Valued Joining Keyed Bodied Sourced Arm Listed Answered Answered Bodied SortBy (List Valued) of_expression of_join of_key of_body (of_source tables) of_arm of_item of_element of_query of_select of_sort_key of_row

abbrev pub arm_in : Maps → CaseArm → Arm
arm_in tables = fold-CaseArm Valued Joining Keyed Bodied Sourced Arm Listed Answered Answered Bodied SortBy (List Valued) of_expression of_join of_key of_body (of_source tables) of_arm of_item of_element of_query of_select of_sort_key of_row

abbrev pub item_in : Maps → ListItem → Listed
item_in tables = fold-ListItem Valued Joining Keyed Bodied Sourced Arm Listed Answered Answered Bodied SortBy (List Valued) of_expression of_join of_key of_body (of_source tables) of_arm of_item of_element of_query of_select of_sort_key of_row

abbrev pub element_in : Maps → FromItem → Answered
element_in tables = fold-FromItem Valued Joining Keyed Bodied Sourced Arm Listed Answered Answered Bodied SortBy (List Valued) of_expression of_join of_key of_body (of_source tables) of_arm of_item of_element of_query of_select of_sort_key of_row

abbrev pub query_in : Maps → Query → Answered
query_in tables = fold-Query Valued Joining Keyed Bodied Sourced Arm Listed Answered Answered Bodied SortBy (List Valued) of_expression of_join of_key of_body (of_source tables) of_arm of_item of_element of_query of_select of_sort_key of_row

abbrev pub select_in : Maps → Select → Bodied
select_in tables = fold-Select Valued Joining Keyed Bodied Sourced Arm Listed Answered Answered Bodied SortBy (List Valued) of_expression of_join of_key of_body (of_source tables) of_arm of_item of_element of_query of_select of_sort_key of_row

abbrev pub sort_key_in : Maps → SortKey → SortBy
sort_key_in tables = fold-SortKey Valued Joining Keyed Bodied Sourced Arm Listed Answered Answered Bodied SortBy (List Valued) of_expression of_join of_key of_body (of_source tables) of_arm of_item of_element of_query of_select of_sort_key of_row

abbrev pub row_in : Maps → ValuesRow → List Valued
row_in tables = fold-ValuesRow Valued Joining Keyed Bodied Sourced Arm Listed Answered Answered Bodied SortBy (List Valued) of_expression of_join of_key of_body (of_source tables) of_arm of_item of_element of_query of_select of_sort_key of_row

-- ---- the whole

-- the rows that a query answers, or its fault
abbrev pub answer : Maps → Query → Result Rows EvalFault
answer tables query = query_in tables query []

-- what an expression gives over a row of the table that a statement changes
abbrev pub evaluated : Maps → Expr → List Value → Outcome
evaluated tables e row = value_in tables e (over_row [] row)
