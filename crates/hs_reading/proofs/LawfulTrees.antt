-- Whether trees are lawful, layer by layer.
use Rattle.std.specs.Prelude.{◌≡◌, Bool}
use Rattle.hs_ast.specs.Lawful.{of_arm, of_body, of_expression, of_from, of_item, of_join, of_key, of_kind, of_query, of_row, of_select, of_table}
use Rattle.hs_ast.specs.declared.expression.ExpressionKind.TheOpen.{ExpressionKind-F, Join-F, QueryBody-F, SelectItem-F, TableReference-F, CaseArm-F, Expression-F, FromItem-F, Query-F, Select-F, SortKey-F, ValuesRow-F}
use Rattle.hs_ast.specs.declared.expression.ExpressionKind.{ExpressionKind, roll-ExpressionKind, map-ExpressionKind, fold-ExpressionKind, fold-roll-ExpressionKind}
use Rattle.hs_ast.specs.declared.query.Join.{Join, roll-Join, map-Join, fold-Join, fold-roll-Join}
use Rattle.hs_ast.specs.declared.query.QueryBody.{QueryBody, roll-QueryBody, map-QueryBody, fold-QueryBody, fold-roll-QueryBody}
use Rattle.hs_ast.specs.declared.query.SelectItem.{SelectItem, roll-SelectItem, map-SelectItem, fold-SelectItem, fold-roll-SelectItem}
use Rattle.hs_ast.specs.declared.query.TableReference.{TableReference, roll-TableReference, map-TableReference, fold-TableReference, fold-roll-TableReference}
use Rattle.hs_ast.specs.declared.expression.CaseArm.{CaseArm, roll-CaseArm, map-CaseArm, fold-CaseArm, fold-roll-CaseArm}
use Rattle.hs_ast.specs.declared.expression.Expression.{Expression, roll-Expression, map-Expression, fold-Expression, fold-roll-Expression}
use Rattle.hs_ast.specs.declared.query.FromItem.{FromItem, roll-FromItem, map-FromItem, fold-FromItem, fold-roll-FromItem}
use Rattle.hs_ast.specs.declared.query.Query.{Query, roll-Query, map-Query, fold-Query, fold-roll-Query}
use Rattle.hs_ast.specs.declared.query.Select.{Select, roll-Select, map-Select, fold-Select, fold-roll-Select}
use Rattle.hs_ast.specs.declared.query.SortKey.{SortKey, roll-SortKey, map-SortKey, fold-SortKey, fold-roll-SortKey}
use Rattle.hs_ast.specs.declared.query.ValuesRow.{ValuesRow, roll-ValuesRow, map-ValuesRow, fold-ValuesRow, fold-roll-ValuesRow}

abbrev pub good_kind : ExpressionKind → Bool
good_kind = fold-ExpressionKind Bool Bool Bool Bool Bool Bool Bool Bool Bool Bool Bool Bool of_kind of_join of_body of_item of_table of_arm of_expression of_from of_query of_select of_key of_row

abbrev pub good_join : Join → Bool
good_join = fold-Join Bool Bool Bool Bool Bool Bool Bool Bool Bool Bool Bool Bool of_kind of_join of_body of_item of_table of_arm of_expression of_from of_query of_select of_key of_row

abbrev pub good_body : QueryBody → Bool
good_body = fold-QueryBody Bool Bool Bool Bool Bool Bool Bool Bool Bool Bool Bool Bool of_kind of_join of_body of_item of_table of_arm of_expression of_from of_query of_select of_key of_row

abbrev pub good_item : SelectItem → Bool
good_item = fold-SelectItem Bool Bool Bool Bool Bool Bool Bool Bool Bool Bool Bool Bool of_kind of_join of_body of_item of_table of_arm of_expression of_from of_query of_select of_key of_row

abbrev pub good_table : TableReference → Bool
good_table = fold-TableReference Bool Bool Bool Bool Bool Bool Bool Bool Bool Bool Bool Bool of_kind of_join of_body of_item of_table of_arm of_expression of_from of_query of_select of_key of_row

abbrev pub good_arm : CaseArm → Bool
good_arm = fold-CaseArm Bool Bool Bool Bool Bool Bool Bool Bool Bool Bool Bool Bool of_kind of_join of_body of_item of_table of_arm of_expression of_from of_query of_select of_key of_row

abbrev pub good_tree : Expression → Bool
good_tree = fold-Expression Bool Bool Bool Bool Bool Bool Bool Bool Bool Bool Bool Bool of_kind of_join of_body of_item of_table of_arm of_expression of_from of_query of_select of_key of_row

abbrev pub good_element : FromItem → Bool
good_element = fold-FromItem Bool Bool Bool Bool Bool Bool Bool Bool Bool Bool Bool Bool of_kind of_join of_body of_item of_table of_arm of_expression of_from of_query of_select of_key of_row

abbrev pub good_query : Query → Bool
good_query = fold-Query Bool Bool Bool Bool Bool Bool Bool Bool Bool Bool Bool Bool of_kind of_join of_body of_item of_table of_arm of_expression of_from of_query of_select of_key of_row

abbrev pub good_select : Select → Bool
good_select = fold-Select Bool Bool Bool Bool Bool Bool Bool Bool Bool Bool Bool Bool of_kind of_join of_body of_item of_table of_arm of_expression of_from of_query of_select of_key of_row

abbrev pub good_key : SortKey → Bool
good_key = fold-SortKey Bool Bool Bool Bool Bool Bool Bool Bool Bool Bool Bool Bool of_kind of_join of_body of_item of_table of_arm of_expression of_from of_query of_select of_key of_row

abbrev pub good_row : ValuesRow → Bool
good_row = fold-ValuesRow Bool Bool Bool Bool Bool Bool Bool Bool Bool Bool Bool Bool of_kind of_join of_body of_item of_table of_arm of_expression of_from of_query of_select of_key of_row

abbrev pub kind_test : ExpressionKind-F ExpressionKind Join QueryBody SelectItem TableReference CaseArm Expression FromItem Query Select SortKey ValuesRow → ExpressionKind-F Bool Bool Bool Bool Bool Bool Bool Bool Bool Bool Bool Bool
kind_test = map-ExpressionKind ExpressionKind Join QueryBody SelectItem TableReference CaseArm Expression FromItem Query Select SortKey ValuesRow Bool Bool Bool Bool Bool Bool Bool Bool Bool Bool Bool Bool good_kind good_join good_body good_item good_table good_arm good_tree good_element good_query good_select good_key good_row

pub kind_good : (x : ExpressionKind-F ExpressionKind Join QueryBody SelectItem TableReference CaseArm Expression FromItem Query Select SortKey ValuesRow) → good_kind (roll-ExpressionKind x) ≡ of_kind (kind_test x)
kind_good x = fold-roll-ExpressionKind Bool Bool Bool Bool Bool Bool Bool Bool Bool Bool Bool Bool of_kind of_join of_body of_item of_table of_arm of_expression of_from of_query of_select of_key of_row x

abbrev pub join_test : Join-F ExpressionKind Join QueryBody SelectItem TableReference CaseArm Expression FromItem Query Select SortKey ValuesRow → Join-F Bool Bool Bool Bool Bool Bool Bool Bool Bool Bool Bool Bool
join_test = map-Join ExpressionKind Join QueryBody SelectItem TableReference CaseArm Expression FromItem Query Select SortKey ValuesRow Bool Bool Bool Bool Bool Bool Bool Bool Bool Bool Bool Bool good_kind good_join good_body good_item good_table good_arm good_tree good_element good_query good_select good_key good_row

pub join_good : (x : Join-F ExpressionKind Join QueryBody SelectItem TableReference CaseArm Expression FromItem Query Select SortKey ValuesRow) → good_join (roll-Join x) ≡ of_join (join_test x)
join_good x = fold-roll-Join Bool Bool Bool Bool Bool Bool Bool Bool Bool Bool Bool Bool of_kind of_join of_body of_item of_table of_arm of_expression of_from of_query of_select of_key of_row x

abbrev pub body_test : QueryBody-F ExpressionKind Join QueryBody SelectItem TableReference CaseArm Expression FromItem Query Select SortKey ValuesRow → QueryBody-F Bool Bool Bool Bool Bool Bool Bool Bool Bool Bool Bool Bool
body_test = map-QueryBody ExpressionKind Join QueryBody SelectItem TableReference CaseArm Expression FromItem Query Select SortKey ValuesRow Bool Bool Bool Bool Bool Bool Bool Bool Bool Bool Bool Bool good_kind good_join good_body good_item good_table good_arm good_tree good_element good_query good_select good_key good_row

pub body_good : (x : QueryBody-F ExpressionKind Join QueryBody SelectItem TableReference CaseArm Expression FromItem Query Select SortKey ValuesRow) → good_body (roll-QueryBody x) ≡ of_body (body_test x)
body_good x = fold-roll-QueryBody Bool Bool Bool Bool Bool Bool Bool Bool Bool Bool Bool Bool of_kind of_join of_body of_item of_table of_arm of_expression of_from of_query of_select of_key of_row x

abbrev pub item_test : SelectItem-F ExpressionKind Join QueryBody SelectItem TableReference CaseArm Expression FromItem Query Select SortKey ValuesRow → SelectItem-F Bool Bool Bool Bool Bool Bool Bool Bool Bool Bool Bool Bool
item_test = map-SelectItem ExpressionKind Join QueryBody SelectItem TableReference CaseArm Expression FromItem Query Select SortKey ValuesRow Bool Bool Bool Bool Bool Bool Bool Bool Bool Bool Bool Bool good_kind good_join good_body good_item good_table good_arm good_tree good_element good_query good_select good_key good_row

pub item_good : (x : SelectItem-F ExpressionKind Join QueryBody SelectItem TableReference CaseArm Expression FromItem Query Select SortKey ValuesRow) → good_item (roll-SelectItem x) ≡ of_item (item_test x)
item_good x = fold-roll-SelectItem Bool Bool Bool Bool Bool Bool Bool Bool Bool Bool Bool Bool of_kind of_join of_body of_item of_table of_arm of_expression of_from of_query of_select of_key of_row x

abbrev pub table_test : TableReference-F ExpressionKind Join QueryBody SelectItem TableReference CaseArm Expression FromItem Query Select SortKey ValuesRow → TableReference-F Bool Bool Bool Bool Bool Bool Bool Bool Bool Bool Bool Bool
table_test = map-TableReference ExpressionKind Join QueryBody SelectItem TableReference CaseArm Expression FromItem Query Select SortKey ValuesRow Bool Bool Bool Bool Bool Bool Bool Bool Bool Bool Bool Bool good_kind good_join good_body good_item good_table good_arm good_tree good_element good_query good_select good_key good_row

pub table_good : (x : TableReference-F ExpressionKind Join QueryBody SelectItem TableReference CaseArm Expression FromItem Query Select SortKey ValuesRow) → good_table (roll-TableReference x) ≡ of_table (table_test x)
table_good x = fold-roll-TableReference Bool Bool Bool Bool Bool Bool Bool Bool Bool Bool Bool Bool of_kind of_join of_body of_item of_table of_arm of_expression of_from of_query of_select of_key of_row x

abbrev pub arm_test : CaseArm-F ExpressionKind Join QueryBody SelectItem TableReference CaseArm Expression FromItem Query Select SortKey ValuesRow → CaseArm-F Bool Bool Bool Bool Bool Bool Bool Bool Bool Bool Bool Bool
arm_test = map-CaseArm ExpressionKind Join QueryBody SelectItem TableReference CaseArm Expression FromItem Query Select SortKey ValuesRow Bool Bool Bool Bool Bool Bool Bool Bool Bool Bool Bool Bool good_kind good_join good_body good_item good_table good_arm good_tree good_element good_query good_select good_key good_row

pub arm_good : (x : CaseArm-F ExpressionKind Join QueryBody SelectItem TableReference CaseArm Expression FromItem Query Select SortKey ValuesRow) → good_arm (roll-CaseArm x) ≡ of_arm (arm_test x)
arm_good x = fold-roll-CaseArm Bool Bool Bool Bool Bool Bool Bool Bool Bool Bool Bool Bool of_kind of_join of_body of_item of_table of_arm of_expression of_from of_query of_select of_key of_row x

abbrev pub tree_test : Expression-F ExpressionKind Join QueryBody SelectItem TableReference CaseArm Expression FromItem Query Select SortKey ValuesRow → Expression-F Bool Bool Bool Bool Bool Bool Bool Bool Bool Bool Bool Bool
tree_test = map-Expression ExpressionKind Join QueryBody SelectItem TableReference CaseArm Expression FromItem Query Select SortKey ValuesRow Bool Bool Bool Bool Bool Bool Bool Bool Bool Bool Bool Bool good_kind good_join good_body good_item good_table good_arm good_tree good_element good_query good_select good_key good_row

pub tree_good : (x : Expression-F ExpressionKind Join QueryBody SelectItem TableReference CaseArm Expression FromItem Query Select SortKey ValuesRow) → good_tree (roll-Expression x) ≡ of_expression (tree_test x)
tree_good x = fold-roll-Expression Bool Bool Bool Bool Bool Bool Bool Bool Bool Bool Bool Bool of_kind of_join of_body of_item of_table of_arm of_expression of_from of_query of_select of_key of_row x

abbrev pub element_test : FromItem-F ExpressionKind Join QueryBody SelectItem TableReference CaseArm Expression FromItem Query Select SortKey ValuesRow → FromItem-F Bool Bool Bool Bool Bool Bool Bool Bool Bool Bool Bool Bool
element_test = map-FromItem ExpressionKind Join QueryBody SelectItem TableReference CaseArm Expression FromItem Query Select SortKey ValuesRow Bool Bool Bool Bool Bool Bool Bool Bool Bool Bool Bool Bool good_kind good_join good_body good_item good_table good_arm good_tree good_element good_query good_select good_key good_row

pub element_good : (x : FromItem-F ExpressionKind Join QueryBody SelectItem TableReference CaseArm Expression FromItem Query Select SortKey ValuesRow) → good_element (roll-FromItem x) ≡ of_from (element_test x)
element_good x = fold-roll-FromItem Bool Bool Bool Bool Bool Bool Bool Bool Bool Bool Bool Bool of_kind of_join of_body of_item of_table of_arm of_expression of_from of_query of_select of_key of_row x

abbrev pub query_test : Query-F ExpressionKind Join QueryBody SelectItem TableReference CaseArm Expression FromItem Query Select SortKey ValuesRow → Query-F Bool Bool Bool Bool Bool Bool Bool Bool Bool Bool Bool Bool
query_test = map-Query ExpressionKind Join QueryBody SelectItem TableReference CaseArm Expression FromItem Query Select SortKey ValuesRow Bool Bool Bool Bool Bool Bool Bool Bool Bool Bool Bool Bool good_kind good_join good_body good_item good_table good_arm good_tree good_element good_query good_select good_key good_row

pub query_good : (x : Query-F ExpressionKind Join QueryBody SelectItem TableReference CaseArm Expression FromItem Query Select SortKey ValuesRow) → good_query (roll-Query x) ≡ of_query (query_test x)
query_good x = fold-roll-Query Bool Bool Bool Bool Bool Bool Bool Bool Bool Bool Bool Bool of_kind of_join of_body of_item of_table of_arm of_expression of_from of_query of_select of_key of_row x

abbrev pub select_test : Select-F ExpressionKind Join QueryBody SelectItem TableReference CaseArm Expression FromItem Query Select SortKey ValuesRow → Select-F Bool Bool Bool Bool Bool Bool Bool Bool Bool Bool Bool Bool
select_test = map-Select ExpressionKind Join QueryBody SelectItem TableReference CaseArm Expression FromItem Query Select SortKey ValuesRow Bool Bool Bool Bool Bool Bool Bool Bool Bool Bool Bool Bool good_kind good_join good_body good_item good_table good_arm good_tree good_element good_query good_select good_key good_row

pub select_good : (x : Select-F ExpressionKind Join QueryBody SelectItem TableReference CaseArm Expression FromItem Query Select SortKey ValuesRow) → good_select (roll-Select x) ≡ of_select (select_test x)
select_good x = fold-roll-Select Bool Bool Bool Bool Bool Bool Bool Bool Bool Bool Bool Bool of_kind of_join of_body of_item of_table of_arm of_expression of_from of_query of_select of_key of_row x

abbrev pub key_test : SortKey-F ExpressionKind Join QueryBody SelectItem TableReference CaseArm Expression FromItem Query Select SortKey ValuesRow → SortKey-F Bool Bool Bool Bool Bool Bool Bool Bool Bool Bool Bool Bool
key_test = map-SortKey ExpressionKind Join QueryBody SelectItem TableReference CaseArm Expression FromItem Query Select SortKey ValuesRow Bool Bool Bool Bool Bool Bool Bool Bool Bool Bool Bool Bool good_kind good_join good_body good_item good_table good_arm good_tree good_element good_query good_select good_key good_row

pub key_good : (x : SortKey-F ExpressionKind Join QueryBody SelectItem TableReference CaseArm Expression FromItem Query Select SortKey ValuesRow) → good_key (roll-SortKey x) ≡ of_key (key_test x)
key_good x = fold-roll-SortKey Bool Bool Bool Bool Bool Bool Bool Bool Bool Bool Bool Bool of_kind of_join of_body of_item of_table of_arm of_expression of_from of_query of_select of_key of_row x

abbrev pub row_test : ValuesRow-F ExpressionKind Join QueryBody SelectItem TableReference CaseArm Expression FromItem Query Select SortKey ValuesRow → ValuesRow-F Bool Bool Bool Bool Bool Bool Bool Bool Bool Bool Bool Bool
row_test = map-ValuesRow ExpressionKind Join QueryBody SelectItem TableReference CaseArm Expression FromItem Query Select SortKey ValuesRow Bool Bool Bool Bool Bool Bool Bool Bool Bool Bool Bool Bool good_kind good_join good_body good_item good_table good_arm good_tree good_element good_query good_select good_key good_row

pub row_good : (x : ValuesRow-F ExpressionKind Join QueryBody SelectItem TableReference CaseArm Expression FromItem Query Select SortKey ValuesRow) → good_row (roll-ValuesRow x) ≡ of_row (row_test x)
row_good x = fold-roll-ValuesRow Bool Bool Bool Bool Bool Bool Bool Bool Bool Bool Bool Bool of_kind of_join of_body of_item of_table of_arm of_expression of_from of_query of_select of_key of_row x
