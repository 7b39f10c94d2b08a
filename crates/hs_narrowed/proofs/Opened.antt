-- What the parts of a query give and name, by their own parts.
use Rattle.std.proofs.Common.{◌≡◌, Bool, List, [], ◌∷◌, ◌++◌, map, Option, Some, None, refl, ap, ◌∙◌}
use Rattle.std.specs.Option.{option_map}
use Rattle.hs_plan.specs.declared.expression.CaseArm.{CaseArm}
use Rattle.hs_plan.specs.declared.expression.Expr.{Expr}
use Rattle.hs_plan.specs.declared.expression.Expr.TheOpen.{Key-F, QueryBody-F, Select-F}
use Rattle.hs_plan.specs.declared.expression.ListItem.{ListItem}
use Rattle.hs_plan.specs.declared.query.FromItem.{FromItem, out-FromItem, fold_out-FromItem}
use Rattle.hs_plan.specs.declared.query.Join.{Join}
use Rattle.hs_plan.specs.declared.query.Key.{Key, out-Key, map-Key, fold_out-Key}
use Rattle.hs_plan.specs.declared.query.Query.{Query, out-Query, fold_out-Query}
use Rattle.hs_plan.specs.declared.query.QueryBody.{QueryBody}
use Rattle.hs_plan.specs.declared.query.QueryBody as b
use Rattle.hs_plan.specs.declared.query.Select.{Select, out-Select, map-Select, fold_out-Select}
use Rattle.hs_plan.specs.declared.query.SortKey.{SortKey, out-SortKey, fold_out-SortKey}
use Rattle.hs_plan.specs.declared.query.Source.{Source}
use Rattle.hs_plan.specs.declared.query.ValuesRow.{ValuesRow}
use Rattle.hs_plan.specs.Named as names
use Rattle.hs_plan.specs.Named.{Found, concat, if_written, named, named_in_arm, named_in_body, named_in_from, named_in_item, named_in_join, named_in_key, named_in_query, named_in_row, named_in_select, named_in_sort_key, named_in_source}
use Rattle.hs_changes.specs.Settings.{Maps}
use Rattle.hs_expression.specs.Expression.{Arm, Listed, of_arm, of_expression, of_item}
use Rattle.hs_expression.specs.Surroundings.{Answered, Valued}
use Rattle.hs_answer.specs.Answer.{arm_in, body_in, element_in, item_in, join_in, key_in, query_in, row_in, select_in, sort_key_in, source_in, value_in}
use Rattle.hs_answer.specs.Bodies.{of_body, of_row}
use Rattle.hs_answer.specs.From.{of_element, of_join, of_source}
use Rattle.hs_answer.specs.Layers.{Bodied, Joining, KeyLayer, Keyed, QueryLayer, SelectLayer, SortBy, Sourced}
use Rattle.hs_answer.specs.Order.{of_key, of_query, of_sort_key}
use Rattle.hs_answer.specs.Selects.{of_select}
use Rattle.hs_answer_laws.proofs.Layers.{body_gives, body_names}

-- ---- SELECT, whose parts may be left out

abbrev Open : Type 0
Open = Select-F Expr Join Key QueryBody Source CaseArm ListItem FromItem Query Select SortKey ValuesRow

-- ---- what they give

module _ (tables : Maps) where
  abbrev pub query_layer : Query → QueryLayer
  query_layer x = record { body = body_in tables (out-Query x).body; order_by = map (sort_key_in tables) (out-Query x).order_by; limit = (out-Query x).limit }

  pub query_is : (x : Query) → query_in tables x ≡ of_query (query_layer x)
  query_is x = fold_out-Query Valued Joining Keyed Bodied Sourced Arm Listed Answered Answered Bodied SortBy (List Valued) of_expression of_join of_key of_body (of_source tables) of_arm of_item of_element of_query of_select of_sort_key of_row x

  pub sort_key_is : (x : SortKey) → sort_key_in tables x ≡ record { key = key_in tables (out-SortKey x).key; descending = (out-SortKey x).descending }
  sort_key_is x = fold_out-SortKey Valued Joining Keyed Bodied Sourced Arm Listed Answered Answered Bodied SortBy (List Valued) of_expression of_join of_key of_body (of_source tables) of_arm of_item of_element of_query of_select of_sort_key of_row x

  abbrev pub key_layer : Key-F Expr Join Key QueryBody Source CaseArm ListItem FromItem Query Select SortKey ValuesRow → KeyLayer
  key_layer = map-Key Expr Join Key QueryBody Source CaseArm ListItem FromItem Query Select SortKey ValuesRow Valued Joining Keyed Bodied Sourced Arm Listed Answered Answered Bodied SortBy (List Valued) (value_in tables) (join_in tables) (key_in tables) (body_in tables) (source_in tables) (arm_in tables) (item_in tables) (element_in tables) (query_in tables) (select_in tables) (sort_key_in tables) (row_in tables)

  pub key_is : (x : Key) → key_in tables x ≡ of_key (key_layer (out-Key x))
  key_is x = fold_out-Key Valued Joining Keyed Bodied Sourced Arm Listed Answered Answered Bodied SortBy (List Valued) of_expression of_join of_key of_body (of_source tables) of_arm of_item of_element of_query of_select of_sort_key of_row x

  pub element_is : (x : FromItem) → element_in tables x ≡ of_element (record { source = source_in tables (out-FromItem x).source; joins = map (join_in tables) (out-FromItem x).joins })
  element_is x = fold_out-FromItem Valued Joining Keyed Bodied Sourced Arm Listed Answered Answered Bodied SortBy (List Valued) of_expression of_join of_key of_body (of_source tables) of_arm of_item of_element of_query of_select of_sort_key of_row x

  pub select_body_is : (x : Select) → body_in tables (b.Select x) ≡ select_in tables x
  unfolding b.roll-QueryBody denote.Hole.Carrier.roll
  select_body_is x = body_gives tables (QueryBody-F.Select x)

  abbrev told_of : Open → SelectLayer
  told_of = map-Select Expr Join Key QueryBody Source CaseArm ListItem FromItem Query Select SortKey ValuesRow Valued Joining Keyed Bodied Sourced Arm Listed Answered Answered Bodied SortBy (List Valued) (value_in tables) (join_in tables) (key_in tables) (body_in tables) (source_in tables) (arm_in tables) (item_in tables) (element_in tables) (query_in tables) (select_in tables) (sort_key_in tables) (row_in tables)

  abbrev pub layer_with : Bool → Bool → List Expr → List FromItem → Option Expr → List Expr → Option Expr → SelectLayer
  layer_with distinct grouped items from condition group_by having = record {
    distinct = distinct;
    items = map (value_in tables) items;
    from = map (element_in tables) from;
    filter = option_map (value_in tables) condition;
    grouped = grouped;
    group_by = map (value_in tables) group_by;
    having = option_map (value_in tables) having;
  }

  told_with : (distinct grouped : Bool) (items : List Expr) (from : List FromItem) (condition : Option Expr) (group_by : List Expr) (having : Option Expr)
      → told_of (record { distinct = distinct; items = items; from = from; filter = condition; grouped = grouped; group_by = group_by; having = having }) ≡ layer_with distinct grouped items from condition group_by having
  told_with distinct grouped items from None group_by None = refl
  told_with distinct grouped items from None group_by (Some h) = refl
  told_with distinct grouped items from (Some f) group_by None = refl
  told_with distinct grouped items from (Some f) group_by (Some h) = refl

  abbrev pub select_layer : Select → SelectLayer
  select_layer x = layer_with (out-Select x).distinct (out-Select x).grouped (out-Select x).items (out-Select x).from (out-Select x).filter (out-Select x).group_by (out-Select x).having

  told_is : (y : Open) → told_of y ≡ layer_with y.distinct y.grouped y.items y.from y.filter y.group_by y.having
  told_is y = told_with y.distinct y.grouped y.items y.from y.filter y.group_by y.having

  pub select_is : (x : Select) → select_in tables x ≡ of_select (select_layer x)
  select_is x =
      fold_out-Select Valued Joining Keyed Bodied Sourced Arm Listed Answered Answered Bodied SortBy (List Valued) of_expression of_join of_key of_body (of_source tables) of_arm of_item of_element of_query of_select of_sort_key of_row x
      ∙ ap of_select (told_is (out-Select x))

-- ---- what they name

pub query_lists : (x : Query) → named_in_query x ≡ named_in_body (out-Query x).body ++ concat (map named_in_sort_key (out-Query x).order_by)
query_lists x = fold_out-Query Found Found Found Found Found Found Found Found Found Found Found Found names.of_expression names.of_join names.of_key names.of_body names.of_source names.of_arm names.of_list_item names.of_from names.of_query names.of_select names.of_sort_key names.of_row x

pub sort_key_lists : (x : SortKey) → named_in_sort_key x ≡ named_in_key (out-SortKey x).key
sort_key_lists x = fold_out-SortKey Found Found Found Found Found Found Found Found Found Found Found Found names.of_expression names.of_join names.of_key names.of_body names.of_source names.of_arm names.of_list_item names.of_from names.of_query names.of_select names.of_sort_key names.of_row x

abbrev pub key_found : Key-F Expr Join Key QueryBody Source CaseArm ListItem FromItem Query Select SortKey ValuesRow → Key-F Found Found Found Found Found Found Found Found Found Found Found Found
key_found = map-Key Expr Join Key QueryBody Source CaseArm ListItem FromItem Query Select SortKey ValuesRow Found Found Found Found Found Found Found Found Found Found Found Found named named_in_join named_in_key named_in_body named_in_source named_in_arm named_in_item named_in_from named_in_query named_in_select named_in_sort_key named_in_row

pub key_lists : (x : Key) → named_in_key x ≡ names.of_key (key_found (out-Key x))
key_lists x = fold_out-Key Found Found Found Found Found Found Found Found Found Found Found Found names.of_expression names.of_join names.of_key names.of_body names.of_source names.of_arm names.of_list_item names.of_from names.of_query names.of_select names.of_sort_key names.of_row x

pub element_lists : (x : FromItem) → named_in_from x ≡ named_in_source (out-FromItem x).source ++ concat (map named_in_join (out-FromItem x).joins)
element_lists x = fold_out-FromItem Found Found Found Found Found Found Found Found Found Found Found Found names.of_expression names.of_join names.of_key names.of_body names.of_source names.of_arm names.of_list_item names.of_from names.of_query names.of_select names.of_sort_key names.of_row x

pub select_body_lists : (x : Select) → named_in_body (b.Select x) ≡ named_in_select x
unfolding b.roll-QueryBody denote.Hole.Carrier.roll
select_body_lists x = body_names (QueryBody-F.Select x)

abbrev found_of : Open → Select-F Found Found Found Found Found Found Found Found Found Found Found Found
found_of = map-Select Expr Join Key QueryBody Source CaseArm ListItem FromItem Query Select SortKey ValuesRow Found Found Found Found Found Found Found Found Found Found Found Found named named_in_join named_in_key named_in_body named_in_source named_in_arm named_in_item named_in_from named_in_query named_in_select named_in_sort_key named_in_row

abbrev list_with : List FromItem → Option Expr → List Expr → Option Expr → List Expr → Found
list_with from condition group_by having items = concat (map named_in_from from) ++ if_written (option_map named condition) ++ concat (map named group_by) ++ if_written (option_map named having) ++ concat (map named items)

found_with : (distinct grouped : Bool) (items : List Expr) (from : List FromItem) (condition : Option Expr) (group_by : List Expr) (having : Option Expr)
    → names.of_select (found_of (record { distinct = distinct; items = items; from = from; filter = condition; grouped = grouped; group_by = group_by; having = having })) ≡ list_with from condition group_by having items
found_with distinct grouped items from None group_by None = refl
found_with distinct grouped items from None group_by (Some h) = refl
found_with distinct grouped items from (Some f) group_by None = refl
found_with distinct grouped items from (Some f) group_by (Some h) = refl

found_is : (y : Open) → names.of_select (found_of y) ≡ list_with y.from y.filter y.group_by y.having y.items
found_is y = found_with y.distinct y.grouped y.items y.from y.filter y.group_by y.having

pub select_lists : (x : Select) → named_in_select x ≡ list_with (out-Select x).from (out-Select x).filter (out-Select x).group_by (out-Select x).having (out-Select x).items
select_lists x =
    fold_out-Select Found Found Found Found Found Found Found Found Found Found Found Found names.of_expression names.of_join names.of_key names.of_body names.of_source names.of_arm names.of_list_item names.of_from names.of_query names.of_select names.of_sort_key names.of_row x
    ∙ found_is (out-Select x)
