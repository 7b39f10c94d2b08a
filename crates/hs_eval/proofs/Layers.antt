-- What each layer of a bound tree gives, with what its parts give in their places.
use Rattle.std.proofs.Common.{◌≡◌, ℕ, Bool, List, map, Option, Some, None, refl, sym, ap, ◌∙◌}
use Rattle.std.specs.Option.{option_map}
use Rattle.hs_ast.specs.declared.expression.Aggregate.{Aggregate}
use Rattle.hs_ast.specs.declared.query.SetOperator.{SetOperator}
use Rattle.hs_plan.specs.declared.expression.CaseArm.{CaseArm}
use Rattle.hs_plan.specs.declared.expression.Expr.{Expr}
use Rattle.hs_plan.specs.declared.expression.Expr as e
use Rattle.hs_plan.specs.declared.expression.Expr.TheOpen.{Expr-F, Join-F, Key-F, QueryBody-F, Select-F}
use Rattle.hs_plan.specs.declared.expression.ListItem.{ListItem}
use Rattle.hs_plan.specs.declared.query.FromItem.{FromItem, out-FromItem, fold_out-FromItem}
use Rattle.hs_plan.specs.declared.kind.Kind.{Kind}
use Rattle.hs_plan.specs.declared.query.Join.{Join}
use Rattle.hs_plan.specs.declared.query.Join as j
use Rattle.hs_plan.specs.declared.query.Key.{Key}
use Rattle.hs_plan.specs.declared.query.Key as k
use Rattle.hs_plan.specs.declared.query.Query.{Query, out-Query, fold_out-Query}
use Rattle.hs_plan.specs.declared.query.QueryBody.{QueryBody}
use Rattle.hs_plan.specs.declared.query.QueryBody as b
use Rattle.hs_plan.specs.declared.query.Select.{Select, out-Select, map-Select, fold_out-Select}
use Rattle.hs_plan.specs.declared.query.SortKey.{SortKey, out-SortKey, fold_out-SortKey}
use Rattle.hs_plan.specs.declared.query.Source.{Source}
use Rattle.hs_plan.specs.declared.query.ValuesRow.{ValuesRow, out-ValuesRow, fold_out-ValuesRow}
use Rattle.hs_changes.specs.Settings.{Maps}
use Rattle.hs_expression.specs.Expression.{Arm, Listed, of_arm, of_expression, of_item}
use Rattle.hs_expression.specs.Surroundings.{Answered, Rows, Surroundings, Valued}
use Rattle.hs_answer.specs.Answer.{arm_in, body_in, element_in, item_in, join_in, key_in, query_in, row_in, select_in, sort_key_in, source_in, value_in}
use Rattle.hs_answer.specs.Bodies.{of_body, of_row, sides_combined}
use Rattle.hs_answer.specs.From.{inner_to, left_to, of_element, of_join, of_source}
use Rattle.hs_answer.specs.Layers.{Bodied, Joining, Keyed, QueryLayer, SelectLayer, SortBy, Sourced}
use Rattle.hs_answer.specs.Order.{of_key, of_query, of_sort_key}
use Rattle.hs_answer.specs.Selects.{of_select}
use Rattle.hs_answer_laws.proofs.Layers.{body_gives, join_gives, key_gives, value_gives}
pub use Rattle.hs_narrowed.proofs.Opened.{element_is, layer_with, query_is, query_layer, select_is, sort_key_is}
use Rattle.hs_eval.specs.Parts.{aggregate_of}

module _ (tables : Maps) where
  pub row_is : (x : ValuesRow) → row_in tables x ≡ map (value_in tables) (out-ValuesRow x).values
  row_is x = fold_out-ValuesRow Valued Joining Keyed Bodied Sourced Arm Listed Answered Answered Bodied SortBy (List Valued) of_expression of_join of_key of_body (of_source tables) of_arm of_item of_element of_query of_select of_sort_key of_row x

  -- ---- SELECT

  -- the same over lists that were read of it
  abbrev pub layer_over : Select → List FromItem → List Expr → List Expr → SelectLayer
  layer_over x from group_by items = layer_with tables (out-Select x).distinct (out-Select x).grouped items from (out-Select x).filter group_by (out-Select x).having

  pub select_over : (x : Select) (outer : Rows) (from : List FromItem) (group_by items : List Expr) → from ≡ (out-Select x).from → group_by ≡ (out-Select x).group_by → items ≡ (out-Select x).items → select_in tables x outer ≡ of_select (layer_over x from group_by items) outer
  select_over x outer from group_by items by_from by_group_by by_items =
      ap (λ f. f outer) (select_is tables x) ∙ (λ i. of_select (layer_over x (sym by_from i) (sym by_group_by i) (sym by_items i)) outer)

  -- ---- parts of which there are several forms

  pub aggregate_is : (function : Aggregate) (distinct : Bool) (a : Expr) (s : Surroundings) → value_in tables (e.Aggregate function distinct a) s ≡ aggregate_of function distinct (value_in tables a) s
  unfolding e.roll-Expr denote.Hole.Carrier.roll
  aggregate_is function distinct a s = ap (λ (g : Valued). g s) (value_gives tables (Expr-F.Aggregate function distinct a))

  pub inner_is : (source : Source) (on : Expr) → join_in tables (j.Inner source on) ≡ inner_to (source_in tables source) (value_in tables on)
  unfolding j.roll-Join denote.Hole.Carrier.roll
  inner_is source on = join_gives tables (Join-F.Inner source on)

  pub left_is : (source : Source) (on : Expr) → join_in tables (j.Left source on) ≡ left_to (source_in tables source) (value_in tables on)
  unfolding j.roll-Join denote.Hole.Carrier.roll
  left_is source on = join_gives tables (Join-F.Left source on)

  pub output_is : (at : ℕ) → key_in tables (k.Output at) ≡ of_key (Key-F.Output at)
  unfolding k.roll-Key denote.Hole.Carrier.roll
  output_is at = key_gives tables (Key-F.Output at)

  pub value_key_is : (a : Expr) → key_in tables (k.Value a) ≡ of_key (Key-F.Value (value_in tables a))
  unfolding k.roll-Key denote.Hole.Carrier.roll
  value_key_is a = key_gives tables (Key-F.Value a)

  pub sides_is : (operator : SetOperator) (kinds : List Kind) (left right : QueryBody) → body_in tables (b.SetOperation operator kinds left right) ≡ sides_combined operator kinds (body_in tables left) (body_in tables right)
  unfolding b.roll-QueryBody denote.Hole.Carrier.roll
  sides_is operator kinds left right = body_gives tables (QueryBody-F.SetOperation operator kinds left right)
