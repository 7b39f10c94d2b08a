-- What each layer of a bound tree gives and names, from what its parts do.
use Rattle.std.proofs.Common.{◌≡◌, Bool, List, ◌++◌, map, Option, None, Some}
use Rattle.std.specs.Option.{option_map}
use Rattle.hs_plan.specs.declared.expression.CaseArm.{CaseArm, roll-CaseArm, fold-roll-CaseArm}
use Rattle.hs_plan.specs.declared.expression.Expr.{Expr, roll-Expr, fold-roll-Expr}
use Rattle.hs_plan.specs.declared.expression.ListItem.{ListItem, roll-ListItem, fold-roll-ListItem}
use Rattle.hs_plan.specs.declared.query.FromItem.{FromItem, roll-FromItem, fold-roll-FromItem}
use Rattle.hs_plan.specs.declared.query.Join.{Join, roll-Join, fold-roll-Join}
use Rattle.hs_plan.specs.declared.query.Key.{Key, roll-Key, fold-roll-Key}
use Rattle.hs_plan.specs.declared.query.Query.{Query, roll-Query, fold-roll-Query}
use Rattle.hs_plan.specs.declared.query.QueryBody.{QueryBody, roll-QueryBody, fold-roll-QueryBody}
use Rattle.hs_plan.specs.declared.query.Select.{Select, roll-Select, fold-roll-Select}
use Rattle.hs_plan.specs.declared.query.SortKey.{SortKey, roll-SortKey, fold-roll-SortKey}
use Rattle.hs_plan.specs.declared.query.Source.{Source, roll-Source, fold-roll-Source}
use Rattle.hs_plan.specs.declared.query.ValuesRow.{ValuesRow, roll-ValuesRow, fold-roll-ValuesRow}
use Rattle.hs_plan.specs.declared.expression.Expr.TheFolds.{map-Expr, map-Join, map-Key, map-QueryBody, map-Source, map-CaseArm, map-ListItem, map-FromItem, map-Query, map-Select, map-SortKey, map-ValuesRow}
use Rattle.hs_plan.specs.declared.expression.Expr.TheOpen.{Expr-F, Join-F, Key-F, QueryBody-F, Source-F, CaseArm-F, ListItem-F, FromItem-F, Query-F, Select-F, SortKey-F, ValuesRow-F}
use Rattle.hs_plan.specs.Named as names
use Rattle.hs_plan.specs.Named.{Found, concat, if_written, named, named_in_join, named_in_key, named_in_body, named_in_source, named_in_arm, named_in_item, named_in_from, named_in_query, named_in_select, named_in_sort_key, named_in_row}
use Rattle.hs_changes.specs.Settings.{Maps}
use Rattle.hs_expression.specs.Expression.{Arm, Listed, of_arm, of_expression, of_item}
use Rattle.hs_expression.specs.Surroundings.{Answered, Valued}
use Rattle.hs_answer.specs.Answer.{arm_in, body_in, element_in, item_in, join_in, key_in, query_in, row_in, select_in, sort_key_in, source_in, value_in}
use Rattle.hs_answer.specs.Bodies.{of_body, of_row}
use Rattle.hs_answer.specs.From.{of_element, of_join, of_source}
use Rattle.hs_answer.specs.Layers.{Bodied, Joining, Keyed, SortBy, Sourced}
use Rattle.hs_answer.specs.Order.{of_key, of_query, of_sort_key}
use Rattle.hs_answer.specs.Selects.{of_select}

-- ---- what they give

pub value_gives : (tables : Maps) (x : Expr-F Expr Join Key QueryBody Source CaseArm ListItem FromItem Query Select SortKey ValuesRow) → value_in tables (roll-Expr x) ≡ of_expression (map-Expr Expr Join Key QueryBody Source CaseArm ListItem FromItem Query Select SortKey ValuesRow Valued Joining Keyed Bodied Sourced Arm Listed Answered Answered Bodied SortBy (List Valued) (value_in tables) (join_in tables) (key_in tables) (body_in tables) (source_in tables) (arm_in tables) (item_in tables) (element_in tables) (query_in tables) (select_in tables) (sort_key_in tables) (row_in tables) x)
value_gives tables x = fold-roll-Expr Valued Joining Keyed Bodied Sourced Arm Listed Answered Answered Bodied SortBy (List Valued) of_expression of_join of_key of_body (of_source tables) of_arm of_item of_element of_query of_select of_sort_key of_row x

pub join_gives : (tables : Maps) (x : Join-F Expr Join Key QueryBody Source CaseArm ListItem FromItem Query Select SortKey ValuesRow) → join_in tables (roll-Join x) ≡ of_join (map-Join Expr Join Key QueryBody Source CaseArm ListItem FromItem Query Select SortKey ValuesRow Valued Joining Keyed Bodied Sourced Arm Listed Answered Answered Bodied SortBy (List Valued) (value_in tables) (join_in tables) (key_in tables) (body_in tables) (source_in tables) (arm_in tables) (item_in tables) (element_in tables) (query_in tables) (select_in tables) (sort_key_in tables) (row_in tables) x)
join_gives tables x = fold-roll-Join Valued Joining Keyed Bodied Sourced Arm Listed Answered Answered Bodied SortBy (List Valued) of_expression of_join of_key of_body (of_source tables) of_arm of_item of_element of_query of_select of_sort_key of_row x

pub key_gives : (tables : Maps) (x : Key-F Expr Join Key QueryBody Source CaseArm ListItem FromItem Query Select SortKey ValuesRow) → key_in tables (roll-Key x) ≡ of_key (map-Key Expr Join Key QueryBody Source CaseArm ListItem FromItem Query Select SortKey ValuesRow Valued Joining Keyed Bodied Sourced Arm Listed Answered Answered Bodied SortBy (List Valued) (value_in tables) (join_in tables) (key_in tables) (body_in tables) (source_in tables) (arm_in tables) (item_in tables) (element_in tables) (query_in tables) (select_in tables) (sort_key_in tables) (row_in tables) x)
key_gives tables x = fold-roll-Key Valued Joining Keyed Bodied Sourced Arm Listed Answered Answered Bodied SortBy (List Valued) of_expression of_join of_key of_body (of_source tables) of_arm of_item of_element of_query of_select of_sort_key of_row x

pub body_gives : (tables : Maps) (x : QueryBody-F Expr Join Key QueryBody Source CaseArm ListItem FromItem Query Select SortKey ValuesRow) → body_in tables (roll-QueryBody x) ≡ of_body (map-QueryBody Expr Join Key QueryBody Source CaseArm ListItem FromItem Query Select SortKey ValuesRow Valued Joining Keyed Bodied Sourced Arm Listed Answered Answered Bodied SortBy (List Valued) (value_in tables) (join_in tables) (key_in tables) (body_in tables) (source_in tables) (arm_in tables) (item_in tables) (element_in tables) (query_in tables) (select_in tables) (sort_key_in tables) (row_in tables) x)
body_gives tables x = fold-roll-QueryBody Valued Joining Keyed Bodied Sourced Arm Listed Answered Answered Bodied SortBy (List Valued) of_expression of_join of_key of_body (of_source tables) of_arm of_item of_element of_query of_select of_sort_key of_row x

pub source_gives : (tables : Maps) (x : Source-F Expr Join Key QueryBody Source CaseArm ListItem FromItem Query Select SortKey ValuesRow) → source_in tables (roll-Source x) ≡ of_source tables (map-Source Expr Join Key QueryBody Source CaseArm ListItem FromItem Query Select SortKey ValuesRow Valued Joining Keyed Bodied Sourced Arm Listed Answered Answered Bodied SortBy (List Valued) (value_in tables) (join_in tables) (key_in tables) (body_in tables) (source_in tables) (arm_in tables) (item_in tables) (element_in tables) (query_in tables) (select_in tables) (sort_key_in tables) (row_in tables) x)
source_gives tables x = fold-roll-Source Valued Joining Keyed Bodied Sourced Arm Listed Answered Answered Bodied SortBy (List Valued) of_expression of_join of_key of_body (of_source tables) of_arm of_item of_element of_query of_select of_sort_key of_row x

pub arm_gives : (tables : Maps) (x : CaseArm-F Expr Join Key QueryBody Source CaseArm ListItem FromItem Query Select SortKey ValuesRow) → arm_in tables (roll-CaseArm x) ≡ of_arm (map-CaseArm Expr Join Key QueryBody Source CaseArm ListItem FromItem Query Select SortKey ValuesRow Valued Joining Keyed Bodied Sourced Arm Listed Answered Answered Bodied SortBy (List Valued) (value_in tables) (join_in tables) (key_in tables) (body_in tables) (source_in tables) (arm_in tables) (item_in tables) (element_in tables) (query_in tables) (select_in tables) (sort_key_in tables) (row_in tables) x)
arm_gives tables x = fold-roll-CaseArm Valued Joining Keyed Bodied Sourced Arm Listed Answered Answered Bodied SortBy (List Valued) of_expression of_join of_key of_body (of_source tables) of_arm of_item of_element of_query of_select of_sort_key of_row x

pub item_gives : (tables : Maps) (x : ListItem-F Expr Join Key QueryBody Source CaseArm ListItem FromItem Query Select SortKey ValuesRow) → item_in tables (roll-ListItem x) ≡ of_item (map-ListItem Expr Join Key QueryBody Source CaseArm ListItem FromItem Query Select SortKey ValuesRow Valued Joining Keyed Bodied Sourced Arm Listed Answered Answered Bodied SortBy (List Valued) (value_in tables) (join_in tables) (key_in tables) (body_in tables) (source_in tables) (arm_in tables) (item_in tables) (element_in tables) (query_in tables) (select_in tables) (sort_key_in tables) (row_in tables) x)
item_gives tables x = fold-roll-ListItem Valued Joining Keyed Bodied Sourced Arm Listed Answered Answered Bodied SortBy (List Valued) of_expression of_join of_key of_body (of_source tables) of_arm of_item of_element of_query of_select of_sort_key of_row x

pub element_gives : (tables : Maps) (x : FromItem-F Expr Join Key QueryBody Source CaseArm ListItem FromItem Query Select SortKey ValuesRow) → element_in tables (roll-FromItem x) ≡ of_element (map-FromItem Expr Join Key QueryBody Source CaseArm ListItem FromItem Query Select SortKey ValuesRow Valued Joining Keyed Bodied Sourced Arm Listed Answered Answered Bodied SortBy (List Valued) (value_in tables) (join_in tables) (key_in tables) (body_in tables) (source_in tables) (arm_in tables) (item_in tables) (element_in tables) (query_in tables) (select_in tables) (sort_key_in tables) (row_in tables) x)
element_gives tables x = fold-roll-FromItem Valued Joining Keyed Bodied Sourced Arm Listed Answered Answered Bodied SortBy (List Valued) of_expression of_join of_key of_body (of_source tables) of_arm of_item of_element of_query of_select of_sort_key of_row x

pub query_gives : (tables : Maps) (x : Query-F Expr Join Key QueryBody Source CaseArm ListItem FromItem Query Select SortKey ValuesRow) → query_in tables (roll-Query x) ≡ of_query (map-Query Expr Join Key QueryBody Source CaseArm ListItem FromItem Query Select SortKey ValuesRow Valued Joining Keyed Bodied Sourced Arm Listed Answered Answered Bodied SortBy (List Valued) (value_in tables) (join_in tables) (key_in tables) (body_in tables) (source_in tables) (arm_in tables) (item_in tables) (element_in tables) (query_in tables) (select_in tables) (sort_key_in tables) (row_in tables) x)
query_gives tables x = fold-roll-Query Valued Joining Keyed Bodied Sourced Arm Listed Answered Answered Bodied SortBy (List Valued) of_expression of_join of_key of_body (of_source tables) of_arm of_item of_element of_query of_select of_sort_key of_row x

pub select_gives : (tables : Maps) (x : Select-F Expr Join Key QueryBody Source CaseArm ListItem FromItem Query Select SortKey ValuesRow) → select_in tables (roll-Select x) ≡ of_select (map-Select Expr Join Key QueryBody Source CaseArm ListItem FromItem Query Select SortKey ValuesRow Valued Joining Keyed Bodied Sourced Arm Listed Answered Answered Bodied SortBy (List Valued) (value_in tables) (join_in tables) (key_in tables) (body_in tables) (source_in tables) (arm_in tables) (item_in tables) (element_in tables) (query_in tables) (select_in tables) (sort_key_in tables) (row_in tables) x)
select_gives tables x = fold-roll-Select Valued Joining Keyed Bodied Sourced Arm Listed Answered Answered Bodied SortBy (List Valued) of_expression of_join of_key of_body (of_source tables) of_arm of_item of_element of_query of_select of_sort_key of_row x

pub sort_key_gives : (tables : Maps) (x : SortKey-F Expr Join Key QueryBody Source CaseArm ListItem FromItem Query Select SortKey ValuesRow) → sort_key_in tables (roll-SortKey x) ≡ of_sort_key (map-SortKey Expr Join Key QueryBody Source CaseArm ListItem FromItem Query Select SortKey ValuesRow Valued Joining Keyed Bodied Sourced Arm Listed Answered Answered Bodied SortBy (List Valued) (value_in tables) (join_in tables) (key_in tables) (body_in tables) (source_in tables) (arm_in tables) (item_in tables) (element_in tables) (query_in tables) (select_in tables) (sort_key_in tables) (row_in tables) x)
sort_key_gives tables x = fold-roll-SortKey Valued Joining Keyed Bodied Sourced Arm Listed Answered Answered Bodied SortBy (List Valued) of_expression of_join of_key of_body (of_source tables) of_arm of_item of_element of_query of_select of_sort_key of_row x

pub row_gives : (tables : Maps) (x : ValuesRow-F Expr Join Key QueryBody Source CaseArm ListItem FromItem Query Select SortKey ValuesRow) → row_in tables (roll-ValuesRow x) ≡ of_row (map-ValuesRow Expr Join Key QueryBody Source CaseArm ListItem FromItem Query Select SortKey ValuesRow Valued Joining Keyed Bodied Sourced Arm Listed Answered Answered Bodied SortBy (List Valued) (value_in tables) (join_in tables) (key_in tables) (body_in tables) (source_in tables) (arm_in tables) (item_in tables) (element_in tables) (query_in tables) (select_in tables) (sort_key_in tables) (row_in tables) x)
row_gives tables x = fold-roll-ValuesRow Valued Joining Keyed Bodied Sourced Arm Listed Answered Answered Bodied SortBy (List Valued) of_expression of_join of_key of_body (of_source tables) of_arm of_item of_element of_query of_select of_sort_key of_row x

-- ---- what they name

pub value_names : (x : Expr-F Expr Join Key QueryBody Source CaseArm ListItem FromItem Query Select SortKey ValuesRow) → named (roll-Expr x) ≡ names.of_expression (map-Expr Expr Join Key QueryBody Source CaseArm ListItem FromItem Query Select SortKey ValuesRow Found Found Found Found Found Found Found Found Found Found Found Found named named_in_join named_in_key named_in_body named_in_source named_in_arm named_in_item named_in_from named_in_query named_in_select named_in_sort_key named_in_row x)
value_names x = fold-roll-Expr Found Found Found Found Found Found Found Found Found Found Found Found names.of_expression names.of_join names.of_key names.of_body names.of_source names.of_arm names.of_list_item names.of_from names.of_query names.of_select names.of_sort_key names.of_row x

pub join_names : (x : Join-F Expr Join Key QueryBody Source CaseArm ListItem FromItem Query Select SortKey ValuesRow) → named_in_join (roll-Join x) ≡ names.of_join (map-Join Expr Join Key QueryBody Source CaseArm ListItem FromItem Query Select SortKey ValuesRow Found Found Found Found Found Found Found Found Found Found Found Found named named_in_join named_in_key named_in_body named_in_source named_in_arm named_in_item named_in_from named_in_query named_in_select named_in_sort_key named_in_row x)
join_names x = fold-roll-Join Found Found Found Found Found Found Found Found Found Found Found Found names.of_expression names.of_join names.of_key names.of_body names.of_source names.of_arm names.of_list_item names.of_from names.of_query names.of_select names.of_sort_key names.of_row x

pub key_names : (x : Key-F Expr Join Key QueryBody Source CaseArm ListItem FromItem Query Select SortKey ValuesRow) → named_in_key (roll-Key x) ≡ names.of_key (map-Key Expr Join Key QueryBody Source CaseArm ListItem FromItem Query Select SortKey ValuesRow Found Found Found Found Found Found Found Found Found Found Found Found named named_in_join named_in_key named_in_body named_in_source named_in_arm named_in_item named_in_from named_in_query named_in_select named_in_sort_key named_in_row x)
key_names x = fold-roll-Key Found Found Found Found Found Found Found Found Found Found Found Found names.of_expression names.of_join names.of_key names.of_body names.of_source names.of_arm names.of_list_item names.of_from names.of_query names.of_select names.of_sort_key names.of_row x

pub body_names : (x : QueryBody-F Expr Join Key QueryBody Source CaseArm ListItem FromItem Query Select SortKey ValuesRow) → named_in_body (roll-QueryBody x) ≡ names.of_body (map-QueryBody Expr Join Key QueryBody Source CaseArm ListItem FromItem Query Select SortKey ValuesRow Found Found Found Found Found Found Found Found Found Found Found Found named named_in_join named_in_key named_in_body named_in_source named_in_arm named_in_item named_in_from named_in_query named_in_select named_in_sort_key named_in_row x)
body_names x = fold-roll-QueryBody Found Found Found Found Found Found Found Found Found Found Found Found names.of_expression names.of_join names.of_key names.of_body names.of_source names.of_arm names.of_list_item names.of_from names.of_query names.of_select names.of_sort_key names.of_row x

pub source_names : (x : Source-F Expr Join Key QueryBody Source CaseArm ListItem FromItem Query Select SortKey ValuesRow) → named_in_source (roll-Source x) ≡ names.of_source (map-Source Expr Join Key QueryBody Source CaseArm ListItem FromItem Query Select SortKey ValuesRow Found Found Found Found Found Found Found Found Found Found Found Found named named_in_join named_in_key named_in_body named_in_source named_in_arm named_in_item named_in_from named_in_query named_in_select named_in_sort_key named_in_row x)
source_names x = fold-roll-Source Found Found Found Found Found Found Found Found Found Found Found Found names.of_expression names.of_join names.of_key names.of_body names.of_source names.of_arm names.of_list_item names.of_from names.of_query names.of_select names.of_sort_key names.of_row x

pub arm_names : (x : CaseArm-F Expr Join Key QueryBody Source CaseArm ListItem FromItem Query Select SortKey ValuesRow) → named_in_arm (roll-CaseArm x) ≡ names.of_arm (map-CaseArm Expr Join Key QueryBody Source CaseArm ListItem FromItem Query Select SortKey ValuesRow Found Found Found Found Found Found Found Found Found Found Found Found named named_in_join named_in_key named_in_body named_in_source named_in_arm named_in_item named_in_from named_in_query named_in_select named_in_sort_key named_in_row x)
arm_names x = fold-roll-CaseArm Found Found Found Found Found Found Found Found Found Found Found Found names.of_expression names.of_join names.of_key names.of_body names.of_source names.of_arm names.of_list_item names.of_from names.of_query names.of_select names.of_sort_key names.of_row x

pub item_names : (x : ListItem-F Expr Join Key QueryBody Source CaseArm ListItem FromItem Query Select SortKey ValuesRow) → named_in_item (roll-ListItem x) ≡ names.of_list_item (map-ListItem Expr Join Key QueryBody Source CaseArm ListItem FromItem Query Select SortKey ValuesRow Found Found Found Found Found Found Found Found Found Found Found Found named named_in_join named_in_key named_in_body named_in_source named_in_arm named_in_item named_in_from named_in_query named_in_select named_in_sort_key named_in_row x)
item_names x = fold-roll-ListItem Found Found Found Found Found Found Found Found Found Found Found Found names.of_expression names.of_join names.of_key names.of_body names.of_source names.of_arm names.of_list_item names.of_from names.of_query names.of_select names.of_sort_key names.of_row x

pub element_names : (x : FromItem-F Expr Join Key QueryBody Source CaseArm ListItem FromItem Query Select SortKey ValuesRow) → named_in_from (roll-FromItem x) ≡ names.of_from (map-FromItem Expr Join Key QueryBody Source CaseArm ListItem FromItem Query Select SortKey ValuesRow Found Found Found Found Found Found Found Found Found Found Found Found named named_in_join named_in_key named_in_body named_in_source named_in_arm named_in_item named_in_from named_in_query named_in_select named_in_sort_key named_in_row x)
element_names x = fold-roll-FromItem Found Found Found Found Found Found Found Found Found Found Found Found names.of_expression names.of_join names.of_key names.of_body names.of_source names.of_arm names.of_list_item names.of_from names.of_query names.of_select names.of_sort_key names.of_row x

pub query_names : (x : Query-F Expr Join Key QueryBody Source CaseArm ListItem FromItem Query Select SortKey ValuesRow) → named_in_query (roll-Query x) ≡ names.of_query (map-Query Expr Join Key QueryBody Source CaseArm ListItem FromItem Query Select SortKey ValuesRow Found Found Found Found Found Found Found Found Found Found Found Found named named_in_join named_in_key named_in_body named_in_source named_in_arm named_in_item named_in_from named_in_query named_in_select named_in_sort_key named_in_row x)
query_names x = fold-roll-Query Found Found Found Found Found Found Found Found Found Found Found Found names.of_expression names.of_join names.of_key names.of_body names.of_source names.of_arm names.of_list_item names.of_from names.of_query names.of_select names.of_sort_key names.of_row x

pub select_names : (x : Select-F Expr Join Key QueryBody Source CaseArm ListItem FromItem Query Select SortKey ValuesRow) → named_in_select (roll-Select x) ≡ names.of_select (map-Select Expr Join Key QueryBody Source CaseArm ListItem FromItem Query Select SortKey ValuesRow Found Found Found Found Found Found Found Found Found Found Found Found named named_in_join named_in_key named_in_body named_in_source named_in_arm named_in_item named_in_from named_in_query named_in_select named_in_sort_key named_in_row x)
select_names x = fold-roll-Select Found Found Found Found Found Found Found Found Found Found Found Found names.of_expression names.of_join names.of_key names.of_body names.of_source names.of_arm names.of_list_item names.of_from names.of_query names.of_select names.of_sort_key names.of_row x

pub sort_key_names : (x : SortKey-F Expr Join Key QueryBody Source CaseArm ListItem FromItem Query Select SortKey ValuesRow) → named_in_sort_key (roll-SortKey x) ≡ names.of_sort_key (map-SortKey Expr Join Key QueryBody Source CaseArm ListItem FromItem Query Select SortKey ValuesRow Found Found Found Found Found Found Found Found Found Found Found Found named named_in_join named_in_key named_in_body named_in_source named_in_arm named_in_item named_in_from named_in_query named_in_select named_in_sort_key named_in_row x)
sort_key_names x = fold-roll-SortKey Found Found Found Found Found Found Found Found Found Found Found Found names.of_expression names.of_join names.of_key names.of_body names.of_source names.of_arm names.of_list_item names.of_from names.of_query names.of_select names.of_sort_key names.of_row x

pub row_names : (x : ValuesRow-F Expr Join Key QueryBody Source CaseArm ListItem FromItem Query Select SortKey ValuesRow) → named_in_row (roll-ValuesRow x) ≡ names.of_row (map-ValuesRow Expr Join Key QueryBody Source CaseArm ListItem FromItem Query Select SortKey ValuesRow Found Found Found Found Found Found Found Found Found Found Found Found named named_in_join named_in_key named_in_body named_in_source named_in_arm named_in_item named_in_from named_in_query named_in_select named_in_sort_key named_in_row x)
row_names x = fold-roll-ValuesRow Found Found Found Found Found Found Found Found Found Found Found Found names.of_expression names.of_join names.of_key names.of_body names.of_source names.of_arm names.of_list_item names.of_from names.of_query names.of_select names.of_sort_key names.of_row x

-- ---- SELECT, whose parts may be left out

pub select_shows : (tables : Maps) (distinct grouped : Bool) (items : List Expr) (from : List FromItem) (condition : Option Expr) (group_by : List Expr) (having : Option Expr) → select_in tables (roll-Select (record { distinct = distinct; items = items; from = from; filter = condition; grouped = grouped; group_by = group_by; having = having })) ≡ of_select (record { distinct = distinct; items = map (value_in tables) items; from = map (element_in tables) from; filter = option_map (value_in tables) condition; grouped = grouped; group_by = map (value_in tables) group_by; having = option_map (value_in tables) having })
select_shows tables distinct grouped items from None group_by None = select_gives tables (record { distinct = distinct; items = items; from = from; filter = None; grouped = grouped; group_by = group_by; having = None })
select_shows tables distinct grouped items from None group_by (Some q) = select_gives tables (record { distinct = distinct; items = items; from = from; filter = None; grouped = grouped; group_by = group_by; having = Some q })
select_shows tables distinct grouped items from (Some p) group_by None = select_gives tables (record { distinct = distinct; items = items; from = from; filter = Some p; grouped = grouped; group_by = group_by; having = None })
select_shows tables distinct grouped items from (Some p) group_by (Some q) = select_gives tables (record { distinct = distinct; items = items; from = from; filter = Some p; grouped = grouped; group_by = group_by; having = Some q })

pub select_lists : (distinct grouped : Bool) (items : List Expr) (from : List FromItem) (condition : Option Expr) (group_by : List Expr) (having : Option Expr) → named_in_select (roll-Select (record { distinct = distinct; items = items; from = from; filter = condition; grouped = grouped; group_by = group_by; having = having })) ≡ concat (map named_in_from from) ++ if_written (option_map named condition) ++ concat (map named group_by) ++ if_written (option_map named having) ++ concat (map named items)
select_lists distinct grouped items from None group_by None = select_names (record { distinct = distinct; items = items; from = from; filter = None; grouped = grouped; group_by = group_by; having = None })
select_lists distinct grouped items from None group_by (Some q) = select_names (record { distinct = distinct; items = items; from = from; filter = None; grouped = grouped; group_by = group_by; having = Some q })
select_lists distinct grouped items from (Some p) group_by None = select_names (record { distinct = distinct; items = items; from = from; filter = Some p; grouped = grouped; group_by = group_by; having = None })
select_lists distinct grouped items from (Some p) group_by (Some q) = select_names (record { distinct = distinct; items = items; from = from; filter = Some p; grouped = grouped; group_by = group_by; having = Some q })
