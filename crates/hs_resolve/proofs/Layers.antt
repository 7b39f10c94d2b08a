-- A SELECT means what its layer means, with what its parts mean in their places, and so does a key of ORDER BY.
use Rattle.std.proofs.Common.{◌≡◌, Bool, List, map, Option, Some, None, refl, ap, ◌∙◌}
use Rattle.std.specs.Option.{option_map}
use Rattle.hs_ast.specs.declared.expression.CaseArm.{CaseArm}
use Rattle.hs_ast.specs.declared.expression.Expression.{Expression}
use Rattle.hs_ast.specs.declared.expression.ExpressionKind.{ExpressionKind}
use Rattle.hs_ast.specs.declared.expression.ExpressionKind.TheOpen.{Select-F}
use Rattle.hs_ast.specs.declared.query.FromItem.{FromItem}
use Rattle.hs_ast.specs.declared.query.Join.{Join}
use Rattle.hs_ast.specs.declared.query.Query.{Query}
use Rattle.hs_ast.specs.declared.query.QueryBody.{QueryBody}
use Rattle.hs_ast.specs.declared.query.Select.{Select, out-Select, map-Select, fold_out-Select}
use Rattle.hs_ast.specs.declared.query.SelectItem.{SelectItem}
use Rattle.hs_ast.specs.declared.query.SortKey.{SortKey, out-SortKey, fold_out-SortKey}
use Rattle.hs_ast.specs.declared.query.TableReference.{TableReference}
use Rattle.hs_ast.specs.declared.query.ValuesRow.{ValuesRow}
use Rattle.hs_schema.specs.Catalogue.{Things}
use Rattle.hs_meaning.specs.Expressions.{arm_step, form_step, part_step}
use Rattle.hs_meaning.specs.From.{element_step, join_step, table_step}
use Rattle.hs_meaning.specs.Layers.{ArmPart, BodyPart, ElementPart, Form, ItemPart, JoinPart, KeyPart, Part, QueryPart, RowPart, SelectLayer, TablePart}
use Rattle.hs_meaning.specs.Queries.{body_step, key_step, query_step, row_step}
use Rattle.hs_meaning.specs.Selects.{item_step, select_step}
use Rattle.hs_meaning.specs.Trees.{arm_of, body_of, element_of, form_of, item_of, join_of, key_of, layer_of, part_of, query_of, row_of, select_of, table_of}

module _ (things : Things) where
  abbrev Open : Type 0
  Open = Select-F ExpressionKind Join QueryBody SelectItem TableReference CaseArm Expression FromItem Query Select SortKey ValuesRow

  -- one layer, with what is known of its parts
  abbrev told_of : Open → SelectLayer
  told_of = map-Select ExpressionKind Join QueryBody SelectItem TableReference CaseArm Expression FromItem Query Select SortKey ValuesRow Form JoinPart BodyPart ItemPart TablePart ArmPart Part ElementPart QueryPart BodyPart KeyPart RowPart (form_of things) (join_of things) (body_of things) (item_of things) (table_of things) (arm_of things) (part_of things) (element_of things) (query_of things) (select_of things) (key_of things) (row_of things)

  abbrev layer_with : Bool → List SelectItem → List FromItem → Option Expression → List Expression → Option Expression → SelectLayer
  layer_with distinct items from filter group_by having = record {
    distinct = distinct;
    items = map (item_of things) items;
    from = map (element_of things) from;
    filter = option_map (part_of things) filter;
    group_by = map (part_of things) group_by;
    having = option_map (part_of things) having;
  }

  told_with : (distinct : Bool) (items : List SelectItem) (from : List FromItem) (filter : Option Expression) (group_by : List Expression) (having : Option Expression)
      → told_of (record { distinct = distinct; items = items; from = from; filter = filter; group_by = group_by; having = having }) ≡ layer_with distinct items from filter group_by having
  told_with distinct items from None group_by None = refl
  told_with distinct items from None group_by (Some h) = refl
  told_with distinct items from (Some f) group_by None = refl
  told_with distinct items from (Some f) group_by (Some h) = refl

  told_is : (y : Open) → told_of y ≡ layer_with y.distinct y.items y.from y.filter y.group_by y.having
  told_is y = told_with y.distinct y.items y.from y.filter y.group_by y.having

  pub select_is : (x : Select) → select_of things x ≡ select_step (layer_of things x)
  select_is x =
      fold_out-Select Form JoinPart BodyPart ItemPart TablePart ArmPart Part ElementPart QueryPart BodyPart KeyPart RowPart form_step join_step body_step item_step (table_step things) arm_step part_step element_step query_step select_step key_step row_step x
      ∙ ap select_step (told_is (out-Select x))

  pub key_is : (k : SortKey) → key_of things k ≡ record { at = (out-SortKey k).at; value = part_of things (out-SortKey k).value; descending = (out-SortKey k).descending }
  key_is k = fold_out-SortKey Form JoinPart BodyPart ItemPart TablePart ArmPart Part ElementPart QueryPart BodyPart KeyPart RowPart form_step join_step body_step item_step (table_step things) arm_step part_step element_step query_step select_step key_step row_step k
