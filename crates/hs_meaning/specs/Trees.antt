-- What whole trees mean over a catalogue: each layer's meaning, from the leaves to the root.
use Rattle.std.specs.Prelude.{map, option_map}
use Rattle.hs_ast.specs.declared.expression.ExpressionKind.{ExpressionKind, fold-ExpressionKind}
use Rattle.hs_ast.specs.declared.query.Join.{Join, fold-Join}
use Rattle.hs_ast.specs.declared.query.QueryBody.{QueryBody, fold-QueryBody}
use Rattle.hs_ast.specs.declared.query.SelectItem.{SelectItem, fold-SelectItem}
use Rattle.hs_ast.specs.declared.query.TableReference.{TableReference, fold-TableReference}
use Rattle.hs_ast.specs.declared.expression.CaseArm.{CaseArm, fold-CaseArm}
use Rattle.hs_ast.specs.declared.expression.Expression.{Expression, fold-Expression}
use Rattle.hs_ast.specs.declared.query.FromItem.{FromItem, fold-FromItem}
use Rattle.hs_ast.specs.declared.query.Query.{Query, fold-Query}
use Rattle.hs_ast.specs.declared.query.Select.{Select, fold-Select, out-Select}
use Rattle.hs_ast.specs.declared.query.SortKey.{SortKey, fold-SortKey}
use Rattle.hs_ast.specs.declared.query.ValuesRow.{ValuesRow, fold-ValuesRow}
use Rattle.hs_schema.specs.Catalogue.{Things}
use Rattle.hs_meaning.specs.Layers.{ArmPart, BodyPart, ElementPart, Form, ItemPart, JoinPart, KeyPart, Part, QueryPart, RowPart, SelectLayer, TablePart}
use Rattle.hs_meaning.specs.Expressions.{arm_step, form_step, part_step}
use Rattle.hs_meaning.specs.From.{element_step, join_step, table_step}
use Rattle.hs_meaning.specs.Selects.{item_step, select_step}
use Rattle.hs_meaning.specs.Queries.{body_step, key_step, query_step, row_step}

abbrev pub form_of : Things → ExpressionKind → Form
form_of things = fold-ExpressionKind Form JoinPart BodyPart ItemPart TablePart ArmPart Part ElementPart QueryPart BodyPart KeyPart RowPart form_step join_step body_step item_step (table_step things) arm_step part_step element_step query_step select_step key_step row_step

abbrev pub join_of : Things → Join → JoinPart
join_of things = fold-Join Form JoinPart BodyPart ItemPart TablePart ArmPart Part ElementPart QueryPart BodyPart KeyPart RowPart form_step join_step body_step item_step (table_step things) arm_step part_step element_step query_step select_step key_step row_step

abbrev pub body_of : Things → QueryBody → BodyPart
body_of things = fold-QueryBody Form JoinPart BodyPart ItemPart TablePart ArmPart Part ElementPart QueryPart BodyPart KeyPart RowPart form_step join_step body_step item_step (table_step things) arm_step part_step element_step query_step select_step key_step row_step

abbrev pub item_of : Things → SelectItem → ItemPart
item_of things = fold-SelectItem Form JoinPart BodyPart ItemPart TablePart ArmPart Part ElementPart QueryPart BodyPart KeyPart RowPart form_step join_step body_step item_step (table_step things) arm_step part_step element_step query_step select_step key_step row_step

abbrev pub table_of : Things → TableReference → TablePart
table_of things = fold-TableReference Form JoinPart BodyPart ItemPart TablePart ArmPart Part ElementPart QueryPart BodyPart KeyPart RowPart form_step join_step body_step item_step (table_step things) arm_step part_step element_step query_step select_step key_step row_step

abbrev pub arm_of : Things → CaseArm → ArmPart
arm_of things = fold-CaseArm Form JoinPart BodyPart ItemPart TablePart ArmPart Part ElementPart QueryPart BodyPart KeyPart RowPart form_step join_step body_step item_step (table_step things) arm_step part_step element_step query_step select_step key_step row_step

abbrev pub part_of : Things → Expression → Part
part_of things = fold-Expression Form JoinPart BodyPart ItemPart TablePart ArmPart Part ElementPart QueryPart BodyPart KeyPart RowPart form_step join_step body_step item_step (table_step things) arm_step part_step element_step query_step select_step key_step row_step

abbrev pub element_of : Things → FromItem → ElementPart
element_of things = fold-FromItem Form JoinPart BodyPart ItemPart TablePart ArmPart Part ElementPart QueryPart BodyPart KeyPart RowPart form_step join_step body_step item_step (table_step things) arm_step part_step element_step query_step select_step key_step row_step

abbrev pub query_of : Things → Query → QueryPart
query_of things = fold-Query Form JoinPart BodyPart ItemPart TablePart ArmPart Part ElementPart QueryPart BodyPart KeyPart RowPart form_step join_step body_step item_step (table_step things) arm_step part_step element_step query_step select_step key_step row_step

abbrev pub select_of : Things → Select → BodyPart
select_of things = fold-Select Form JoinPart BodyPart ItemPart TablePart ArmPart Part ElementPart QueryPart BodyPart KeyPart RowPart form_step join_step body_step item_step (table_step things) arm_step part_step element_step query_step select_step key_step row_step

abbrev pub key_of : Things → SortKey → KeyPart
key_of things = fold-SortKey Form JoinPart BodyPart ItemPart TablePart ArmPart Part ElementPart QueryPart BodyPart KeyPart RowPart form_step join_step body_step item_step (table_step things) arm_step part_step element_step query_step select_step key_step row_step

abbrev pub row_of : Things → ValuesRow → RowPart
row_of things = fold-ValuesRow Form JoinPart BodyPart ItemPart TablePart ArmPart Part ElementPart QueryPart BodyPart KeyPart RowPart form_step join_step body_step item_step (table_step things) arm_step part_step element_step query_step select_step key_step row_step

-- a SELECT with what its parts mean in their places
abbrev pub layer_of : Things → Select → SelectLayer
layer_of things select =
    let x = out-Select select in
    record {
      distinct = x.distinct;
      items = map (item_of things) x.items;
      from = map (element_of things) x.from;
      filter = option_map (part_of things) x.filter;
      group_by = map (part_of things) x.group_by;
      having = option_map (part_of things) x.having;
    }
