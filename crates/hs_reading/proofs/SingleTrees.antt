-- The faults of whole trees name nothing with a line feed, where the names in them are lawful.
use Rattle.std.proofs.Common.{◌≡◌, ℕ, Bool, true, not, ◌&&◌, List, [], map, Option, Some, None, refl, sym, ◌∙◌, subst}
use Rattle.std.specs.List.{list_all}
use Rattle.std.proofs.lemmas.Bool.{and_parts}
use Rattle.hs_ast.specs.Lawful.{is_control, is_count, is_identifier, is_lawful, is_lawful_query, is_limit, is_name, is_type, if_written, of_arm, of_body, of_expression, of_from, of_item, of_join, of_key, of_kind, of_query, of_row, of_select, of_table}
use Rattle.hs_ast.specs.declared.expression.ExpressionKind.TheOpen.{ExpressionKind-F, Join-F, QueryBody-F, SelectItem-F, TableReference-F, CaseArm-F, Expression-F, FromItem-F, Query-F, Select-F, SortKey-F, ValuesRow-F}
use Rattle.hs_ast.specs.declared.expression.ExpressionKind.{ExpressionKind, roll-ExpressionKind, map-ExpressionKind, fold-roll-ExpressionKind}
use Rattle.hs_ast.specs.declared.query.Join.{Join, roll-Join, map-Join, fold-roll-Join}
use Rattle.hs_ast.specs.declared.query.QueryBody.{QueryBody, roll-QueryBody, map-QueryBody, fold-roll-QueryBody}
use Rattle.hs_ast.specs.declared.query.SelectItem.{SelectItem, roll-SelectItem, map-SelectItem, fold-roll-SelectItem}
use Rattle.hs_ast.specs.declared.query.TableReference.{TableReference, roll-TableReference, map-TableReference, fold-roll-TableReference}
use Rattle.hs_ast.specs.declared.expression.CaseArm.{CaseArm, roll-CaseArm, map-CaseArm, fold-roll-CaseArm}
use Rattle.hs_ast.specs.declared.expression.Expression.{Expression, roll-Expression, map-Expression, fold-roll-Expression, ind-Expression}
use Rattle.hs_ast.specs.declared.query.FromItem.{FromItem, roll-FromItem, map-FromItem, fold-roll-FromItem}
use Rattle.hs_ast.specs.declared.query.Query.{Query, roll-Query, map-Query, fold-roll-Query, ind-Query}
use Rattle.hs_ast.specs.declared.query.Select.{Select, roll-Select, map-Select, fold-roll-Select}
use Rattle.hs_ast.specs.declared.query.SortKey.{SortKey, roll-SortKey, map-SortKey, fold-roll-SortKey}
use Rattle.hs_ast.specs.declared.query.ValuesRow.{ValuesRow, roll-ValuesRow, map-ValuesRow, fold-roll-ValuesRow}
use Rattle.hs_ast.specs.declared.word.Identifier.{Identifier}
use Rattle.hs_entries.specs.Parts.{lacks}
use Rattle.hs_machine.proofs.Acknowledged.{all_lack}
use Rattle.hs_meaning.specs.Expressions.{all_in, arm_step, arms_in, exists_meaning, form_step, in_query_meaning, null_test, optional_in, part_step, signed, subquery_meaning}
use Rattle.hs_meaning.specs.From.{element_step, join_step, shown_name, table_step}
use Rattle.hs_meaning.specs.Layers.{ArmPart, BodyPart, ElementPart, Form, ItemPart, JoinPart, KeyPart, Part, QueryPart, RowPart, TablePart, means}
use Rattle.hs_meaning.specs.Parts.{meant, refused}
use Rattle.hs_meaning.specs.Queries.{body_step, key_step, name_in, query_step, row_step}
use Rattle.hs_meaning.specs.Selects.{item_step, select_step}
use Rattle.hs_meaning.specs.Surroundings.{Surroundings, in_aggregate, in_values}
use Rattle.hs_meaning.specs.Trees.{arm_of, body_of, element_of, form_of, item_of, join_of, key_of, part_of, query_of, row_of, select_of, table_of}
use Rattle.hs_plan.specs.declared.operator.Unary.TheVariants as u
use Rattle.hs_reading.proofs.LawfulTrees.{arm_good, arm_test, body_good, body_test, element_good, element_test, good_arm, good_body, good_element, good_item, good_join, good_key, good_kind, good_query, good_row, good_select, good_table, good_tree, item_good, item_test, join_good, join_test, key_good, key_test, kind_good, kind_test, query_good, query_test, row_good, row_test, select_good, select_test, table_good, table_test, tree_good, tree_test}
use Rattle.hs_reading.proofs.SingleExpressions.{OnArm, OnExpression, OnForm, OnQuery, aggregate_single, all_in_single, arms_single, column_single, condition_single, in_query_single, subquery_single}
use Rattle.hs_reading.proofs.SingleFrom.{OnElement, OnJoin, OnTable, named_single}
use Rattle.hs_reading.proofs.SingleParts.{AreSingle, Each, by_one_single, by_three_single, by_two_single, each_held, if_single, refused_single}
use Rattle.hs_reading.proofs.SingleQueries.{OnKey, OnRow, query_single, set_single, values_single}
use Rattle.hs_reading.proofs.SingleSelects.{OnBody, OnItem, OnSelect, every_single, select_single}
use Rattle.hs_schema.specs.Catalogue.{Things, table_named}
use Rattle.hs_scope.specs.Names.{found_in}
use Rattle.hs_typed.specs.Literals.{sql_type_of}
use Rattle.hs_typed.specs.Rules.{between_typed, binary_typed, call_typed, case_typed, in_list_typed, like_typed, rows_typed, substring_typed, trim_typed, unary_typed}
use Rattle.hs_typed.specs.declared.typed.Typed.{Typed}

-- ---- names

-- a name has no control character
pub name_single : (name : List ℕ) → is_name name ≡ true → lacks 10 name ≡ true
name_single name is = all_lack (λ b. not (is_control b)) 10 refl name (and_parts _ _ is).1

five_parts : (a b c d e : Bool) → (a && (b && (c && (d && e)))) ≡ true → (a ≡ true) × (b ≡ true) × (c ≡ true) × (d ≡ true) × (e ≡ true)
five_parts a b c d e h =
    let first = and_parts a (b && (c && (d && e))) h in
    let second = and_parts b (c && (d && e)) first.1 in
    let third = and_parts c (d && e) second.1 in
    let fourth = and_parts d e third.1 in
    (first.0, second.0, third.0, fourth.0, fourth.1)

module _ (things : Things) where
  abbrev KindSingle : ExpressionKind → Type 0
  KindSingle d = good_kind d ≡ true → OnForm (form_of things d)

  abbrev KindBoth : Type 0
  KindBoth = (d : ExpressionKind) × KindSingle d

  abbrev JoinSingle : Join → Type 0
  JoinSingle d = good_join d ≡ true → OnJoin (join_of things d)

  abbrev JoinBoth : Type 0
  JoinBoth = (d : Join) × JoinSingle d

  abbrev BodySingle : QueryBody → Type 0
  BodySingle d = good_body d ≡ true → OnBody (body_of things d)

  abbrev BodyBoth : Type 0
  BodyBoth = (d : QueryBody) × BodySingle d

  abbrev ItemSingle : SelectItem → Type 0
  ItemSingle d = good_item d ≡ true → OnItem (item_of things d)

  abbrev ItemBoth : Type 0
  ItemBoth = (d : SelectItem) × ItemSingle d

  abbrev TableSingle : TableReference → Type 0
  TableSingle d = good_table d ≡ true → OnTable (table_of things d)

  abbrev TableBoth : Type 0
  TableBoth = (d : TableReference) × TableSingle d

  abbrev ArmSingle : CaseArm → Type 0
  ArmSingle d = good_arm d ≡ true → OnArm (arm_of things d)

  abbrev ArmBoth : Type 0
  ArmBoth = (d : CaseArm) × ArmSingle d

  abbrev TreeSingle : Expression → Type 0
  TreeSingle d = good_tree d ≡ true → OnExpression (part_of things d)

  abbrev TreeBoth : Type 0
  TreeBoth = (d : Expression) × TreeSingle d

  abbrev ElementSingle : FromItem → Type 0
  ElementSingle d = good_element d ≡ true → OnElement (element_of things d)

  abbrev ElementBoth : Type 0
  ElementBoth = (d : FromItem) × ElementSingle d

  abbrev QuerySingle : Query → Type 0
  QuerySingle d = good_query d ≡ true → OnQuery (query_of things d)

  abbrev QueryBoth : Type 0
  QueryBoth = (d : Query) × QuerySingle d

  abbrev SelectSingle : Select → Type 0
  SelectSingle d = good_select d ≡ true → OnBody (select_of things d)

  abbrev SelectBoth : Type 0
  SelectBoth = (d : Select) × SelectSingle d

  abbrev KeySingle : SortKey → Type 0
  KeySingle d = good_key d ≡ true → OnKey (key_of things d)

  abbrev KeyBoth : Type 0
  KeyBoth = (d : SortKey) × KeySingle d

  abbrev RowSingle : ValuesRow → Type 0
  RowSingle d = good_row d ≡ true → OnRow (row_of things d)

  abbrev RowBoth : Type 0
  RowBoth = (d : ValuesRow) × RowSingle d

  abbrev kind_held : ExpressionKind-F KindBoth JoinBoth BodyBoth ItemBoth TableBoth ArmBoth TreeBoth ElementBoth QueryBoth SelectBoth KeyBoth RowBoth → ExpressionKind-F ExpressionKind Join QueryBody SelectItem TableReference CaseArm Expression FromItem Query Select SortKey ValuesRow
  kind_held = map-ExpressionKind KindBoth JoinBoth BodyBoth ItemBoth TableBoth ArmBoth TreeBoth ElementBoth QueryBoth SelectBoth KeyBoth RowBoth ExpressionKind Join QueryBody SelectItem TableReference CaseArm Expression FromItem Query Select SortKey ValuesRow (λ d. d.0) (λ d. d.0) (λ d. d.0) (λ d. d.0) (λ d. d.0) (λ d. d.0) (λ d. d.0) (λ d. d.0) (λ d. d.0) (λ d. d.0) (λ d. d.0) (λ d. d.0)

  abbrev kind_out : ExpressionKind-F ExpressionKind Join QueryBody SelectItem TableReference CaseArm Expression FromItem Query Select SortKey ValuesRow → ExpressionKind-F Form JoinPart BodyPart ItemPart TablePart ArmPart Part ElementPart QueryPart BodyPart KeyPart RowPart
  kind_out = map-ExpressionKind ExpressionKind Join QueryBody SelectItem TableReference CaseArm Expression FromItem Query Select SortKey ValuesRow Form JoinPart BodyPart ItemPart TablePart ArmPart Part ElementPart QueryPart BodyPart KeyPart RowPart (form_of things) (join_of things) (body_of things) (item_of things) (table_of things) (arm_of things) (part_of things) (element_of things) (query_of things) (select_of things) (key_of things) (row_of things)

  kind_is : (x : ExpressionKind-F ExpressionKind Join QueryBody SelectItem TableReference CaseArm Expression FromItem Query Select SortKey ValuesRow) → form_of things (roll-ExpressionKind x) ≡ form_step (kind_out x)
  kind_is x = fold-roll-ExpressionKind Form JoinPart BodyPart ItemPart TablePart ArmPart Part ElementPart QueryPart BodyPart KeyPart RowPart form_step join_step body_step item_step (table_step things) arm_step part_step element_step query_step select_step key_step row_step x

  abbrev join_held : Join-F KindBoth JoinBoth BodyBoth ItemBoth TableBoth ArmBoth TreeBoth ElementBoth QueryBoth SelectBoth KeyBoth RowBoth → Join-F ExpressionKind Join QueryBody SelectItem TableReference CaseArm Expression FromItem Query Select SortKey ValuesRow
  join_held = map-Join KindBoth JoinBoth BodyBoth ItemBoth TableBoth ArmBoth TreeBoth ElementBoth QueryBoth SelectBoth KeyBoth RowBoth ExpressionKind Join QueryBody SelectItem TableReference CaseArm Expression FromItem Query Select SortKey ValuesRow (λ d. d.0) (λ d. d.0) (λ d. d.0) (λ d. d.0) (λ d. d.0) (λ d. d.0) (λ d. d.0) (λ d. d.0) (λ d. d.0) (λ d. d.0) (λ d. d.0) (λ d. d.0)

  abbrev join_out : Join-F ExpressionKind Join QueryBody SelectItem TableReference CaseArm Expression FromItem Query Select SortKey ValuesRow → Join-F Form JoinPart BodyPart ItemPart TablePart ArmPart Part ElementPart QueryPart BodyPart KeyPart RowPart
  join_out = map-Join ExpressionKind Join QueryBody SelectItem TableReference CaseArm Expression FromItem Query Select SortKey ValuesRow Form JoinPart BodyPart ItemPart TablePart ArmPart Part ElementPart QueryPart BodyPart KeyPart RowPart (form_of things) (join_of things) (body_of things) (item_of things) (table_of things) (arm_of things) (part_of things) (element_of things) (query_of things) (select_of things) (key_of things) (row_of things)

  join_is : (x : Join-F ExpressionKind Join QueryBody SelectItem TableReference CaseArm Expression FromItem Query Select SortKey ValuesRow) → join_of things (roll-Join x) ≡ join_step (join_out x)
  join_is x = fold-roll-Join Form JoinPart BodyPart ItemPart TablePart ArmPart Part ElementPart QueryPart BodyPart KeyPart RowPart form_step join_step body_step item_step (table_step things) arm_step part_step element_step query_step select_step key_step row_step x

  abbrev body_held : QueryBody-F KindBoth JoinBoth BodyBoth ItemBoth TableBoth ArmBoth TreeBoth ElementBoth QueryBoth SelectBoth KeyBoth RowBoth → QueryBody-F ExpressionKind Join QueryBody SelectItem TableReference CaseArm Expression FromItem Query Select SortKey ValuesRow
  body_held = map-QueryBody KindBoth JoinBoth BodyBoth ItemBoth TableBoth ArmBoth TreeBoth ElementBoth QueryBoth SelectBoth KeyBoth RowBoth ExpressionKind Join QueryBody SelectItem TableReference CaseArm Expression FromItem Query Select SortKey ValuesRow (λ d. d.0) (λ d. d.0) (λ d. d.0) (λ d. d.0) (λ d. d.0) (λ d. d.0) (λ d. d.0) (λ d. d.0) (λ d. d.0) (λ d. d.0) (λ d. d.0) (λ d. d.0)

  abbrev body_out : QueryBody-F ExpressionKind Join QueryBody SelectItem TableReference CaseArm Expression FromItem Query Select SortKey ValuesRow → QueryBody-F Form JoinPart BodyPart ItemPart TablePart ArmPart Part ElementPart QueryPart BodyPart KeyPart RowPart
  body_out = map-QueryBody ExpressionKind Join QueryBody SelectItem TableReference CaseArm Expression FromItem Query Select SortKey ValuesRow Form JoinPart BodyPart ItemPart TablePart ArmPart Part ElementPart QueryPart BodyPart KeyPart RowPart (form_of things) (join_of things) (body_of things) (item_of things) (table_of things) (arm_of things) (part_of things) (element_of things) (query_of things) (select_of things) (key_of things) (row_of things)

  body_is : (x : QueryBody-F ExpressionKind Join QueryBody SelectItem TableReference CaseArm Expression FromItem Query Select SortKey ValuesRow) → body_of things (roll-QueryBody x) ≡ body_step (body_out x)
  body_is x = fold-roll-QueryBody Form JoinPart BodyPart ItemPart TablePart ArmPart Part ElementPart QueryPart BodyPart KeyPart RowPart form_step join_step body_step item_step (table_step things) arm_step part_step element_step query_step select_step key_step row_step x

  abbrev item_held : SelectItem-F KindBoth JoinBoth BodyBoth ItemBoth TableBoth ArmBoth TreeBoth ElementBoth QueryBoth SelectBoth KeyBoth RowBoth → SelectItem-F ExpressionKind Join QueryBody SelectItem TableReference CaseArm Expression FromItem Query Select SortKey ValuesRow
  item_held = map-SelectItem KindBoth JoinBoth BodyBoth ItemBoth TableBoth ArmBoth TreeBoth ElementBoth QueryBoth SelectBoth KeyBoth RowBoth ExpressionKind Join QueryBody SelectItem TableReference CaseArm Expression FromItem Query Select SortKey ValuesRow (λ d. d.0) (λ d. d.0) (λ d. d.0) (λ d. d.0) (λ d. d.0) (λ d. d.0) (λ d. d.0) (λ d. d.0) (λ d. d.0) (λ d. d.0) (λ d. d.0) (λ d. d.0)

  abbrev item_out : SelectItem-F ExpressionKind Join QueryBody SelectItem TableReference CaseArm Expression FromItem Query Select SortKey ValuesRow → SelectItem-F Form JoinPart BodyPart ItemPart TablePart ArmPart Part ElementPart QueryPart BodyPart KeyPart RowPart
  item_out = map-SelectItem ExpressionKind Join QueryBody SelectItem TableReference CaseArm Expression FromItem Query Select SortKey ValuesRow Form JoinPart BodyPart ItemPart TablePart ArmPart Part ElementPart QueryPart BodyPart KeyPart RowPart (form_of things) (join_of things) (body_of things) (item_of things) (table_of things) (arm_of things) (part_of things) (element_of things) (query_of things) (select_of things) (key_of things) (row_of things)

  item_is : (x : SelectItem-F ExpressionKind Join QueryBody SelectItem TableReference CaseArm Expression FromItem Query Select SortKey ValuesRow) → item_of things (roll-SelectItem x) ≡ item_step (item_out x)
  item_is x = fold-roll-SelectItem Form JoinPart BodyPart ItemPart TablePart ArmPart Part ElementPart QueryPart BodyPart KeyPart RowPart form_step join_step body_step item_step (table_step things) arm_step part_step element_step query_step select_step key_step row_step x

  abbrev table_held : TableReference-F KindBoth JoinBoth BodyBoth ItemBoth TableBoth ArmBoth TreeBoth ElementBoth QueryBoth SelectBoth KeyBoth RowBoth → TableReference-F ExpressionKind Join QueryBody SelectItem TableReference CaseArm Expression FromItem Query Select SortKey ValuesRow
  table_held = map-TableReference KindBoth JoinBoth BodyBoth ItemBoth TableBoth ArmBoth TreeBoth ElementBoth QueryBoth SelectBoth KeyBoth RowBoth ExpressionKind Join QueryBody SelectItem TableReference CaseArm Expression FromItem Query Select SortKey ValuesRow (λ d. d.0) (λ d. d.0) (λ d. d.0) (λ d. d.0) (λ d. d.0) (λ d. d.0) (λ d. d.0) (λ d. d.0) (λ d. d.0) (λ d. d.0) (λ d. d.0) (λ d. d.0)

  abbrev table_out : TableReference-F ExpressionKind Join QueryBody SelectItem TableReference CaseArm Expression FromItem Query Select SortKey ValuesRow → TableReference-F Form JoinPart BodyPart ItemPart TablePart ArmPart Part ElementPart QueryPart BodyPart KeyPart RowPart
  table_out = map-TableReference ExpressionKind Join QueryBody SelectItem TableReference CaseArm Expression FromItem Query Select SortKey ValuesRow Form JoinPart BodyPart ItemPart TablePart ArmPart Part ElementPart QueryPart BodyPart KeyPart RowPart (form_of things) (join_of things) (body_of things) (item_of things) (table_of things) (arm_of things) (part_of things) (element_of things) (query_of things) (select_of things) (key_of things) (row_of things)

  table_is : (x : TableReference-F ExpressionKind Join QueryBody SelectItem TableReference CaseArm Expression FromItem Query Select SortKey ValuesRow) → table_of things (roll-TableReference x) ≡ (table_step things) (table_out x)
  table_is x = fold-roll-TableReference Form JoinPart BodyPart ItemPart TablePart ArmPart Part ElementPart QueryPart BodyPart KeyPart RowPart form_step join_step body_step item_step (table_step things) arm_step part_step element_step query_step select_step key_step row_step x

  abbrev arm_held : CaseArm-F KindBoth JoinBoth BodyBoth ItemBoth TableBoth ArmBoth TreeBoth ElementBoth QueryBoth SelectBoth KeyBoth RowBoth → CaseArm-F ExpressionKind Join QueryBody SelectItem TableReference CaseArm Expression FromItem Query Select SortKey ValuesRow
  arm_held = map-CaseArm KindBoth JoinBoth BodyBoth ItemBoth TableBoth ArmBoth TreeBoth ElementBoth QueryBoth SelectBoth KeyBoth RowBoth ExpressionKind Join QueryBody SelectItem TableReference CaseArm Expression FromItem Query Select SortKey ValuesRow (λ d. d.0) (λ d. d.0) (λ d. d.0) (λ d. d.0) (λ d. d.0) (λ d. d.0) (λ d. d.0) (λ d. d.0) (λ d. d.0) (λ d. d.0) (λ d. d.0) (λ d. d.0)

  abbrev arm_out : CaseArm-F ExpressionKind Join QueryBody SelectItem TableReference CaseArm Expression FromItem Query Select SortKey ValuesRow → CaseArm-F Form JoinPart BodyPart ItemPart TablePart ArmPart Part ElementPart QueryPart BodyPart KeyPart RowPart
  arm_out = map-CaseArm ExpressionKind Join QueryBody SelectItem TableReference CaseArm Expression FromItem Query Select SortKey ValuesRow Form JoinPart BodyPart ItemPart TablePart ArmPart Part ElementPart QueryPart BodyPart KeyPart RowPart (form_of things) (join_of things) (body_of things) (item_of things) (table_of things) (arm_of things) (part_of things) (element_of things) (query_of things) (select_of things) (key_of things) (row_of things)

  arm_is : (x : CaseArm-F ExpressionKind Join QueryBody SelectItem TableReference CaseArm Expression FromItem Query Select SortKey ValuesRow) → arm_of things (roll-CaseArm x) ≡ arm_step (arm_out x)
  arm_is x = fold-roll-CaseArm Form JoinPart BodyPart ItemPart TablePart ArmPart Part ElementPart QueryPart BodyPart KeyPart RowPart form_step join_step body_step item_step (table_step things) arm_step part_step element_step query_step select_step key_step row_step x

  abbrev tree_held : Expression-F KindBoth JoinBoth BodyBoth ItemBoth TableBoth ArmBoth TreeBoth ElementBoth QueryBoth SelectBoth KeyBoth RowBoth → Expression-F ExpressionKind Join QueryBody SelectItem TableReference CaseArm Expression FromItem Query Select SortKey ValuesRow
  tree_held = map-Expression KindBoth JoinBoth BodyBoth ItemBoth TableBoth ArmBoth TreeBoth ElementBoth QueryBoth SelectBoth KeyBoth RowBoth ExpressionKind Join QueryBody SelectItem TableReference CaseArm Expression FromItem Query Select SortKey ValuesRow (λ d. d.0) (λ d. d.0) (λ d. d.0) (λ d. d.0) (λ d. d.0) (λ d. d.0) (λ d. d.0) (λ d. d.0) (λ d. d.0) (λ d. d.0) (λ d. d.0) (λ d. d.0)

  abbrev tree_out : Expression-F ExpressionKind Join QueryBody SelectItem TableReference CaseArm Expression FromItem Query Select SortKey ValuesRow → Expression-F Form JoinPart BodyPart ItemPart TablePart ArmPart Part ElementPart QueryPart BodyPart KeyPart RowPart
  tree_out = map-Expression ExpressionKind Join QueryBody SelectItem TableReference CaseArm Expression FromItem Query Select SortKey ValuesRow Form JoinPart BodyPart ItemPart TablePart ArmPart Part ElementPart QueryPart BodyPart KeyPart RowPart (form_of things) (join_of things) (body_of things) (item_of things) (table_of things) (arm_of things) (part_of things) (element_of things) (query_of things) (select_of things) (key_of things) (row_of things)

  tree_is : (x : Expression-F ExpressionKind Join QueryBody SelectItem TableReference CaseArm Expression FromItem Query Select SortKey ValuesRow) → part_of things (roll-Expression x) ≡ part_step (tree_out x)
  tree_is x = fold-roll-Expression Form JoinPart BodyPart ItemPart TablePart ArmPart Part ElementPart QueryPart BodyPart KeyPart RowPart form_step join_step body_step item_step (table_step things) arm_step part_step element_step query_step select_step key_step row_step x

  abbrev element_held : FromItem-F KindBoth JoinBoth BodyBoth ItemBoth TableBoth ArmBoth TreeBoth ElementBoth QueryBoth SelectBoth KeyBoth RowBoth → FromItem-F ExpressionKind Join QueryBody SelectItem TableReference CaseArm Expression FromItem Query Select SortKey ValuesRow
  element_held = map-FromItem KindBoth JoinBoth BodyBoth ItemBoth TableBoth ArmBoth TreeBoth ElementBoth QueryBoth SelectBoth KeyBoth RowBoth ExpressionKind Join QueryBody SelectItem TableReference CaseArm Expression FromItem Query Select SortKey ValuesRow (λ d. d.0) (λ d. d.0) (λ d. d.0) (λ d. d.0) (λ d. d.0) (λ d. d.0) (λ d. d.0) (λ d. d.0) (λ d. d.0) (λ d. d.0) (λ d. d.0) (λ d. d.0)

  abbrev element_out : FromItem-F ExpressionKind Join QueryBody SelectItem TableReference CaseArm Expression FromItem Query Select SortKey ValuesRow → FromItem-F Form JoinPart BodyPart ItemPart TablePart ArmPart Part ElementPart QueryPart BodyPart KeyPart RowPart
  element_out = map-FromItem ExpressionKind Join QueryBody SelectItem TableReference CaseArm Expression FromItem Query Select SortKey ValuesRow Form JoinPart BodyPart ItemPart TablePart ArmPart Part ElementPart QueryPart BodyPart KeyPart RowPart (form_of things) (join_of things) (body_of things) (item_of things) (table_of things) (arm_of things) (part_of things) (element_of things) (query_of things) (select_of things) (key_of things) (row_of things)

  element_is : (x : FromItem-F ExpressionKind Join QueryBody SelectItem TableReference CaseArm Expression FromItem Query Select SortKey ValuesRow) → element_of things (roll-FromItem x) ≡ element_step (element_out x)
  element_is x = fold-roll-FromItem Form JoinPart BodyPart ItemPart TablePart ArmPart Part ElementPart QueryPart BodyPart KeyPart RowPart form_step join_step body_step item_step (table_step things) arm_step part_step element_step query_step select_step key_step row_step x

  abbrev query_held : Query-F KindBoth JoinBoth BodyBoth ItemBoth TableBoth ArmBoth TreeBoth ElementBoth QueryBoth SelectBoth KeyBoth RowBoth → Query-F ExpressionKind Join QueryBody SelectItem TableReference CaseArm Expression FromItem Query Select SortKey ValuesRow
  query_held = map-Query KindBoth JoinBoth BodyBoth ItemBoth TableBoth ArmBoth TreeBoth ElementBoth QueryBoth SelectBoth KeyBoth RowBoth ExpressionKind Join QueryBody SelectItem TableReference CaseArm Expression FromItem Query Select SortKey ValuesRow (λ d. d.0) (λ d. d.0) (λ d. d.0) (λ d. d.0) (λ d. d.0) (λ d. d.0) (λ d. d.0) (λ d. d.0) (λ d. d.0) (λ d. d.0) (λ d. d.0) (λ d. d.0)

  abbrev query_out : Query-F ExpressionKind Join QueryBody SelectItem TableReference CaseArm Expression FromItem Query Select SortKey ValuesRow → Query-F Form JoinPart BodyPart ItemPart TablePart ArmPart Part ElementPart QueryPart BodyPart KeyPart RowPart
  query_out = map-Query ExpressionKind Join QueryBody SelectItem TableReference CaseArm Expression FromItem Query Select SortKey ValuesRow Form JoinPart BodyPart ItemPart TablePart ArmPart Part ElementPart QueryPart BodyPart KeyPart RowPart (form_of things) (join_of things) (body_of things) (item_of things) (table_of things) (arm_of things) (part_of things) (element_of things) (query_of things) (select_of things) (key_of things) (row_of things)

  query_is : (x : Query-F ExpressionKind Join QueryBody SelectItem TableReference CaseArm Expression FromItem Query Select SortKey ValuesRow) → query_of things (roll-Query x) ≡ query_step (query_out x)
  query_is x = fold-roll-Query Form JoinPart BodyPart ItemPart TablePart ArmPart Part ElementPart QueryPart BodyPart KeyPart RowPart form_step join_step body_step item_step (table_step things) arm_step part_step element_step query_step select_step key_step row_step x

  abbrev select_held : Select-F KindBoth JoinBoth BodyBoth ItemBoth TableBoth ArmBoth TreeBoth ElementBoth QueryBoth SelectBoth KeyBoth RowBoth → Select-F ExpressionKind Join QueryBody SelectItem TableReference CaseArm Expression FromItem Query Select SortKey ValuesRow
  select_held = map-Select KindBoth JoinBoth BodyBoth ItemBoth TableBoth ArmBoth TreeBoth ElementBoth QueryBoth SelectBoth KeyBoth RowBoth ExpressionKind Join QueryBody SelectItem TableReference CaseArm Expression FromItem Query Select SortKey ValuesRow (λ d. d.0) (λ d. d.0) (λ d. d.0) (λ d. d.0) (λ d. d.0) (λ d. d.0) (λ d. d.0) (λ d. d.0) (λ d. d.0) (λ d. d.0) (λ d. d.0) (λ d. d.0)

  abbrev select_out : Select-F ExpressionKind Join QueryBody SelectItem TableReference CaseArm Expression FromItem Query Select SortKey ValuesRow → Select-F Form JoinPart BodyPart ItemPart TablePart ArmPart Part ElementPart QueryPart BodyPart KeyPart RowPart
  select_out = map-Select ExpressionKind Join QueryBody SelectItem TableReference CaseArm Expression FromItem Query Select SortKey ValuesRow Form JoinPart BodyPart ItemPart TablePart ArmPart Part ElementPart QueryPart BodyPart KeyPart RowPart (form_of things) (join_of things) (body_of things) (item_of things) (table_of things) (arm_of things) (part_of things) (element_of things) (query_of things) (select_of things) (key_of things) (row_of things)

  select_is : (x : Select-F ExpressionKind Join QueryBody SelectItem TableReference CaseArm Expression FromItem Query Select SortKey ValuesRow) → select_of things (roll-Select x) ≡ select_step (select_out x)
  select_is x = fold-roll-Select Form JoinPart BodyPart ItemPart TablePart ArmPart Part ElementPart QueryPart BodyPart KeyPart RowPart form_step join_step body_step item_step (table_step things) arm_step part_step element_step query_step select_step key_step row_step x

  abbrev key_held : SortKey-F KindBoth JoinBoth BodyBoth ItemBoth TableBoth ArmBoth TreeBoth ElementBoth QueryBoth SelectBoth KeyBoth RowBoth → SortKey-F ExpressionKind Join QueryBody SelectItem TableReference CaseArm Expression FromItem Query Select SortKey ValuesRow
  key_held = map-SortKey KindBoth JoinBoth BodyBoth ItemBoth TableBoth ArmBoth TreeBoth ElementBoth QueryBoth SelectBoth KeyBoth RowBoth ExpressionKind Join QueryBody SelectItem TableReference CaseArm Expression FromItem Query Select SortKey ValuesRow (λ d. d.0) (λ d. d.0) (λ d. d.0) (λ d. d.0) (λ d. d.0) (λ d. d.0) (λ d. d.0) (λ d. d.0) (λ d. d.0) (λ d. d.0) (λ d. d.0) (λ d. d.0)

  abbrev key_out : SortKey-F ExpressionKind Join QueryBody SelectItem TableReference CaseArm Expression FromItem Query Select SortKey ValuesRow → SortKey-F Form JoinPart BodyPart ItemPart TablePart ArmPart Part ElementPart QueryPart BodyPart KeyPart RowPart
  key_out = map-SortKey ExpressionKind Join QueryBody SelectItem TableReference CaseArm Expression FromItem Query Select SortKey ValuesRow Form JoinPart BodyPart ItemPart TablePart ArmPart Part ElementPart QueryPart BodyPart KeyPart RowPart (form_of things) (join_of things) (body_of things) (item_of things) (table_of things) (arm_of things) (part_of things) (element_of things) (query_of things) (select_of things) (key_of things) (row_of things)

  key_is : (x : SortKey-F ExpressionKind Join QueryBody SelectItem TableReference CaseArm Expression FromItem Query Select SortKey ValuesRow) → key_of things (roll-SortKey x) ≡ key_step (key_out x)
  key_is x = fold-roll-SortKey Form JoinPart BodyPart ItemPart TablePart ArmPart Part ElementPart QueryPart BodyPart KeyPart RowPart form_step join_step body_step item_step (table_step things) arm_step part_step element_step query_step select_step key_step row_step x

  abbrev row_held : ValuesRow-F KindBoth JoinBoth BodyBoth ItemBoth TableBoth ArmBoth TreeBoth ElementBoth QueryBoth SelectBoth KeyBoth RowBoth → ValuesRow-F ExpressionKind Join QueryBody SelectItem TableReference CaseArm Expression FromItem Query Select SortKey ValuesRow
  row_held = map-ValuesRow KindBoth JoinBoth BodyBoth ItemBoth TableBoth ArmBoth TreeBoth ElementBoth QueryBoth SelectBoth KeyBoth RowBoth ExpressionKind Join QueryBody SelectItem TableReference CaseArm Expression FromItem Query Select SortKey ValuesRow (λ d. d.0) (λ d. d.0) (λ d. d.0) (λ d. d.0) (λ d. d.0) (λ d. d.0) (λ d. d.0) (λ d. d.0) (λ d. d.0) (λ d. d.0) (λ d. d.0) (λ d. d.0)

  abbrev row_out : ValuesRow-F ExpressionKind Join QueryBody SelectItem TableReference CaseArm Expression FromItem Query Select SortKey ValuesRow → ValuesRow-F Form JoinPart BodyPart ItemPart TablePart ArmPart Part ElementPart QueryPart BodyPart KeyPart RowPart
  row_out = map-ValuesRow ExpressionKind Join QueryBody SelectItem TableReference CaseArm Expression FromItem Query Select SortKey ValuesRow Form JoinPart BodyPart ItemPart TablePart ArmPart Part ElementPart QueryPart BodyPart KeyPart RowPart (form_of things) (join_of things) (body_of things) (item_of things) (table_of things) (arm_of things) (part_of things) (element_of things) (query_of things) (select_of things) (key_of things) (row_of things)

  row_is : (x : ValuesRow-F ExpressionKind Join QueryBody SelectItem TableReference CaseArm Expression FromItem Query Select SortKey ValuesRow) → row_of things (roll-ValuesRow x) ≡ row_step (row_out x)
  row_is x = fold-roll-ValuesRow Form JoinPart BodyPart ItemPart TablePart ArmPart Part ElementPart QueryPart BodyPart KeyPart RowPart form_step join_step body_step item_step (table_step things) arm_step part_step element_step query_step select_step key_step row_step x

  abbrev parts : List TreeBoth → List Part
  parts list = map (part_of things) (map (λ x. x.0) list)

  abbrev all_good : List TreeBoth → Bool
  all_good list = list_all (λ is. is) (map good_tree (map (λ x. x.0) list))

  parts_on : (list : List TreeBoth) → all_good list ≡ true → Each OnExpression (parts list)
  parts_on list h = each_held OnExpression good_tree (part_of things) list h

  abbrev arms : List ArmBoth → List ArmPart
  arms list = map (arm_of things) (map (λ x. x.0) list)

  abbrev arms_good : List ArmBoth → Bool
  arms_good list = list_all (λ is. is) (map good_arm (map (λ x. x.0) list))

  arms_on : (list : List ArmBoth) → arms_good list ≡ true → Each OnArm (arms list)
  arms_on list h = each_held OnArm good_arm (arm_of things) list h

  abbrev its : TreeBoth → Part
  its x = part_of things x.0

  of_tree : (x : TreeBoth) → good_tree x.0 ≡ true → (s : Surroundings) → AreSingle (means (its x) s).faults
  of_tree x h s = (x.1 h).faults (its x).at s

  -- one that is no column
  form : (f : Form) → f.column ≡ None → ((at : ℕ) (s : Surroundings) → AreSingle (f.means at s).faults) → OnForm f
  form f none h = record { faults = h; column = subst (λ c. lacks 10 (name_in c) ≡ true) (sym none) refl }

  kind_met : (y : ExpressionKind-F KindBoth JoinBoth BodyBoth ItemBoth TableBoth ArmBoth TreeBoth ElementBoth QueryBoth SelectBoth KeyBoth RowBoth) → of_kind (kind_test (kind_held y)) ≡ true → OnForm (form_step (kind_out (kind_held y)))
  kind_met (ExpressionKind-F.Literal literal) h = form _ refl (λ at s. refl)
  kind_met (ExpressionKind-F.Column name) h =
      let single : lacks 10 name.column ≡ true = name_single name.column (and_parts (if_written is_name name.table) (is_name name.column) h).1 in
      record { faults = λ at s. column_single at s name (found_in s.scopes name) single; column = single }
  kind_met (ExpressionKind-F.Signed sign a) h = form _ refl (λ at s. by_one_single (unary_typed (signed sign)) at (means (its a) s) (of_tree a h s))
  kind_met (ExpressionKind-F.Not a) h = form _ refl (λ at s. by_one_single (unary_typed u.Not) at (means (its a) s) (of_tree a h s))
  kind_met (ExpressionKind-F.Binary operator a b) h =
      let two = and_parts (good_tree a.0) (good_tree b.0) h in
      form _ refl (λ at s. by_two_single (binary_typed operator) at (means (its a) s) (means (its b) s) (of_tree a two.0 s) (of_tree b two.1 s))
  kind_met (ExpressionKind-F.IsNull a negated) h = form _ refl (λ at s. by_one_single (unary_typed (null_test negated)) at (means (its a) s) (of_tree a h s))
  kind_met (ExpressionKind-F.Between a negated low high) h =
      let first = and_parts (good_tree a.0) (good_tree low.0 && good_tree high.0) h in
      let two = and_parts (good_tree low.0) (good_tree high.0) first.1 in
      form _ refl (λ at s. by_three_single (between_typed negated) at (means (its a) s) (means (its low) s) (means (its high) s) (of_tree a first.0 s) (of_tree low two.0 s) (of_tree high two.1 s))
  kind_met (ExpressionKind-F.InList a negated list) h =
      let two = and_parts (good_tree a.0) (all_good list) h in
      form _ refl (λ at s. by_two_single (in_list_typed negated) at (means (its a) s) (all_in s (parts list)) (of_tree a two.0 s) (all_in_single s (parts list) (parts_on list two.1)))
  kind_met (ExpressionKind-F.InQuery a negated query) h =
      let two = and_parts (good_tree a.0) (good_query query.0) h in
      form _ refl (λ at s.
      if_single s.queries (in_query_meaning negated at (means (its a) s) (query_of things query.0 s)) (refused at (means (its a) s).faults)
      (in_query_single negated at (means (its a) s) (query_of things query.0 s) (of_tree a two.0 s) (query.1 two.1 s))
      (refused_single Typed at (means (its a) s).faults (of_tree a two.0 s)))
  kind_met (ExpressionKind-F.Like a negated pattern escape) h =
      let two = and_parts (good_tree a.0) (good_tree pattern.0) h in
      form _ refl (λ at s. by_two_single (λ x p. like_typed negated x p escape) at (means (its a) s) (means (its pattern) s) (of_tree a two.0 s) (of_tree pattern two.1 s))
  kind_met (ExpressionKind-F.Exists query) h =
      form _ refl (λ at s. if_single s.queries (exists_meaning at (query_of things query.0 s)) (refused at []) (query.1 h s) (refused_single Typed at [] refl))
  kind_met (ExpressionKind-F.Subquery query) h =
      form _ refl (λ at s. if_single s.queries (subquery_meaning at (query_of things query.0 s)) (refused at []) (subquery_single at (query_of things query.0 s) (query.1 h s)) (refused_single Typed at [] refl))
  kind_met (ExpressionKind-F.Cast a data_type) h =
      form _ refl (λ at s. by_one_single (unary_typed (u.Cast (sql_type_of data_type))) at (means (its a) s) (of_tree a (and_parts (good_tree a.0) (is_type data_type) h).0 s))
  kind_met (ExpressionKind-F.Case list None) h =
      form _ refl (λ at s. by_two_single case_typed at (arms_in s (arms list)) (optional_in s None) (arms_single s (arms list) (arms_on list (and_parts (arms_good list) true h).0)) refl)
  kind_met (ExpressionKind-F.Case list (Some otherwise)) h =
      let two = and_parts (arms_good list) (good_tree otherwise.0) h in
      form _ refl (λ at s. by_two_single case_typed at (arms_in s (arms list)) (optional_in s (Some (its otherwise))) (arms_single s (arms list) (arms_on list two.0)) (of_tree otherwise two.1 s))
  kind_met (ExpressionKind-F.Call function arguments) h = form _ refl (λ at s. by_one_single (call_typed function) at (all_in s (parts arguments)) (all_in_single s (parts arguments) (parts_on arguments h)))
  kind_met (ExpressionKind-F.Substring text start None) h =
      let first = and_parts (good_tree text.0) (good_tree start.0 && true) h in
      let two = and_parts (good_tree start.0) true first.1 in
      form _ refl (λ at s. by_three_single substring_typed at (means (its text) s) (means (its start) s) (optional_in s None) (of_tree text first.0 s) (of_tree start two.0 s) refl)
  kind_met (ExpressionKind-F.Substring text start (Some count)) h =
      let first = and_parts (good_tree text.0) (good_tree start.0 && good_tree count.0) h in
      let two = and_parts (good_tree start.0) (good_tree count.0) first.1 in
      form _ refl (λ at s. by_three_single substring_typed at (means (its text) s) (means (its start) s) (optional_in s (Some (its count))) (of_tree text first.0 s) (of_tree start two.0 s) (of_tree count two.1 s))
  kind_met (ExpressionKind-F.Trim manner None text) h = form _ refl (λ at s. by_two_single (trim_typed manner) at (optional_in s None) (means (its text) s) refl (of_tree text h s))
  kind_met (ExpressionKind-F.Trim manner (Some character) text) h =
      let two = and_parts (good_tree character.0) (good_tree text.0) h in
      form _ refl (λ at s. by_two_single (trim_typed manner) at (optional_in s (Some (its character))) (means (its text) s) (of_tree character two.0 s) (of_tree text two.1 s))
  kind_met (ExpressionKind-F.Extract field a) h = form _ refl (λ at s. by_one_single (unary_typed (u.Extract field)) at (means (its a) s) (of_tree a h s))
  kind_met (ExpressionKind-F.Interval a sign count unit) h =
      form _ refl (λ at s. by_one_single (unary_typed (u.Interval sign count unit)) at (means (its a) s) (of_tree a (and_parts (good_tree a.0) (is_count count) h).0 s))
  kind_met ExpressionKind-F.CountRows h = form _ refl (λ at s. if_single s.aggregates (meant rows_typed) (refused at []) refl (refused_single Typed at [] refl))
  kind_met (ExpressionKind-F.Aggregate function distinct a) h = form _ refl (λ at s. aggregate_single function distinct at s (means (its a) (in_aggregate s)) (of_tree a h (in_aggregate s)))

  join_met : (y : Join-F KindBoth JoinBoth BodyBoth ItemBoth TableBoth ArmBoth TreeBoth ElementBoth QueryBoth SelectBoth KeyBoth RowBoth) → of_join (join_test (join_held y)) ≡ true → OnJoin (join_step (join_out (join_held y)))
  join_met (Join-F.Inner t on) h = let two = and_parts (good_table t.0) (good_tree on.0) h in record { table = t.1 two.0; on = λ s source. condition_single s (its on) (on.1 two.1) }
  join_met (Join-F.Left t on) h = let two = and_parts (good_table t.0) (good_tree on.0) h in record { table = t.1 two.0; on = λ s source. condition_single s (its on) (on.1 two.1) }
  join_met (Join-F.Cross t) h = record { table = t.1 h; on = λ s source. refl }

  body_met : (y : QueryBody-F KindBoth JoinBoth BodyBoth ItemBoth TableBoth ArmBoth TreeBoth ElementBoth QueryBoth SelectBoth KeyBoth RowBoth) → of_body (body_test (body_held y)) ≡ true → OnBody (body_step (body_out (body_held y)))
  body_met (QueryBody-F.Select select) h = λ s. select.1 h s
  body_met (QueryBody-F.Values rows) h = λ s. values_single (map (row_of things) (map (λ x. x.0) rows)) (in_values s) (each_held OnRow good_row (row_of things) rows h)
  body_met (QueryBody-F.SetOperation operator left right) h =
      let two = and_parts (good_body left.0) (good_body right.0) h in
      λ s. set_single operator s (body_of things left.0 s) (body_of things right.0 s) (left.1 two.0 s) (right.1 two.1 s)

  item_met : (y : SelectItem-F KindBoth JoinBoth BodyBoth ItemBoth TableBoth ArmBoth TreeBoth ElementBoth QueryBoth SelectBoth KeyBoth RowBoth) → of_item (item_test (item_held y)) ≡ true → OnItem (item_step (item_out (item_held y)))
  item_met (SelectItem-F.Every at) h = λ s. every_single at s
  item_met (SelectItem-F.One at shown alias) h = λ s. of_tree shown (and_parts (good_tree shown.0) (if_written is_identifier alias) h).0 s

  shown_single : (name : Identifier) (alias : Option Identifier) → is_identifier name ≡ true → if_written is_identifier alias ≡ true → lacks 10 (shown_name name alias).name ≡ true
  shown_single name None h k = name_single name.name h
  shown_single name (Some alias) h k = name_single alias.name k

  table_met : (y : TableReference-F KindBoth JoinBoth BodyBoth ItemBoth TableBoth ArmBoth TreeBoth ElementBoth QueryBoth SelectBoth KeyBoth RowBoth) → of_table (table_test (table_held y)) ≡ true → OnTable (table_step things (table_out (table_held y)))
  table_met (TableReference-F.Named name alias) h =
      let two = and_parts (is_identifier name) (if_written is_identifier alias) h in
      record { name = shown_single name alias two.0 two.1; faults = λ s. named_single name (table_named things name.name) (name_single name.name two.0) }
  table_met (TableReference-F.Derived query alias) h =
      let two = and_parts (good_query query.0) (is_identifier alias) h in
      record { name = name_single alias.name two.1; faults = λ s. query.1 two.0 s }

  arm_met : (y : CaseArm-F KindBoth JoinBoth BodyBoth ItemBoth TableBoth ArmBoth TreeBoth ElementBoth QueryBoth SelectBoth KeyBoth RowBoth) → of_arm (arm_test (arm_held y)) ≡ true → OnArm (arm_step (arm_out (arm_held y)))
  arm_met y h = let two = and_parts (good_tree y.test.0) (good_tree y.value.0) h in record { test = y.test.1 two.0; value = y.value.1 two.1 }

  tree_met : (y : Expression-F KindBoth JoinBoth BodyBoth ItemBoth TableBoth ArmBoth TreeBoth ElementBoth QueryBoth SelectBoth KeyBoth RowBoth) → of_expression (tree_test (tree_held y)) ≡ true → OnExpression (part_step (tree_out (tree_held y)))
  tree_met y h = y.kind.1 h

  element_met : (y : FromItem-F KindBoth JoinBoth BodyBoth ItemBoth TableBoth ArmBoth TreeBoth ElementBoth QueryBoth SelectBoth KeyBoth RowBoth) → of_from (element_test (element_held y)) ≡ true → OnElement (element_step (element_out (element_held y)))
  element_met y h =
      let two = and_parts (good_table y.table.0) (list_all (λ is. is) (map good_join (map (λ x. x.0) y.joins))) h in
      record { table = y.table.1 two.0; joins = each_held OnJoin good_join (join_of things) y.joins two.1 }

  whole_met : (y : Query-F KindBoth JoinBoth BodyBoth ItemBoth TableBoth ArmBoth TreeBoth ElementBoth QueryBoth SelectBoth KeyBoth RowBoth) → of_query (query_test (query_held y)) ≡ true → OnQuery (query_step (query_out (query_held y)))
  whole_met y h =
      let first = and_parts (good_body y.body.0) (list_all (λ is. is) (map good_key (map (λ x. x.0) y.order_by)) && if_written is_limit y.limit) h in
      let two = and_parts (list_all (λ is. is) (map good_key (map (λ x. x.0) y.order_by))) (if_written is_limit y.limit) first.1 in
      query_single (query_out (query_held y)) (y.body.1 first.0) (each_held OnKey good_key (key_of things) y.order_by two.0)

  abbrev spelled : Bool → List ItemBoth → List ElementBoth → Option TreeBoth → List TreeBoth → Option TreeBoth → Select-F KindBoth JoinBoth BodyBoth ItemBoth TableBoth ArmBoth TreeBoth ElementBoth QueryBoth SelectBoth KeyBoth RowBoth
  spelled distinct items from filter group_by having = record { distinct = distinct; items = items; from = from; filter = filter; group_by = group_by; having = having }

  abbrev items_good : List ItemBoth → Bool
  items_good list = list_all (λ is. is) (map good_item (map (λ x. x.0) list))

  abbrev from_good : List ElementBoth → Bool
  from_good list = list_all (λ is. is) (map good_element (map (λ x. x.0) list))

  select_on : (distinct : Bool) (items : List ItemBoth) (from : List ElementBoth) (filter : Option TreeBoth) (group_by : List TreeBoth) (having : Option TreeBoth)
      → of_select (select_test (select_held (spelled distinct items from filter group_by having))) ≡ true → OnSelect (select_out (select_held (spelled distinct items from filter group_by having)))
  select_on distinct items from None group_by None h =
      let its = five_parts (items_good items) (from_good from) true (all_good group_by) true h in
      record { items = each_held OnItem good_item (item_of things) items its.0; from = each_held OnElement good_element (element_of things) from its.1; filter = tt; group_by = parts_on group_by its.3; having = tt }
  select_on distinct items from None group_by (Some v) h =
      let its = five_parts (items_good items) (from_good from) true (all_good group_by) (good_tree v.0) h in
      record { items = each_held OnItem good_item (item_of things) items its.0; from = each_held OnElement good_element (element_of things) from its.1; filter = tt; group_by = parts_on group_by its.3; having = v.1 its.4 }
  select_on distinct items from (Some w) group_by None h =
      let its = five_parts (items_good items) (from_good from) (good_tree w.0) (all_good group_by) true h in
      record { items = each_held OnItem good_item (item_of things) items its.0; from = each_held OnElement good_element (element_of things) from its.1; filter = w.1 its.2; group_by = parts_on group_by its.3; having = tt }
  select_on distinct items from (Some w) group_by (Some v) h =
      let its = five_parts (items_good items) (from_good from) (good_tree w.0) (all_good group_by) (good_tree v.0) h in
      record { items = each_held OnItem good_item (item_of things) items its.0; from = each_held OnElement good_element (element_of things) from its.1; filter = w.1 its.2; group_by = parts_on group_by its.3; having = v.1 its.4 }

  selected_met : (y : Select-F KindBoth JoinBoth BodyBoth ItemBoth TableBoth ArmBoth TreeBoth ElementBoth QueryBoth SelectBoth KeyBoth RowBoth) → of_select (select_test (select_held y)) ≡ true → OnBody (select_step (select_out (select_held y)))
  selected_met y h = select_single (select_out (select_held y)) (select_on y.distinct y.items y.from y.filter y.group_by y.having h)

  key_met : (y : SortKey-F KindBoth JoinBoth BodyBoth ItemBoth TableBoth ArmBoth TreeBoth ElementBoth QueryBoth SelectBoth KeyBoth RowBoth) → of_key (key_test (key_held y)) ≡ true → OnKey (key_step (key_out (key_held y)))
  key_met y h = y.value.1 h

  row_met : (y : ValuesRow-F KindBoth JoinBoth BodyBoth ItemBoth TableBoth ArmBoth TreeBoth ElementBoth QueryBoth SelectBoth KeyBoth RowBoth) → of_row (row_test (row_held y)) ≡ true → OnRow (row_step (row_out (row_held y)))
  row_met y h = parts_on y.values h

  -- ---- whole trees

  pub expression_single : (x : Expression) → is_lawful x ≡ true → OnExpression (part_of things x)
  expression_single =
      ind-Expression KindSingle JoinSingle BodySingle ItemSingle TableSingle ArmSingle TreeSingle ElementSingle QuerySingle SelectSingle KeySingle RowSingle
      (λ x y is. subst (λ z. KindSingle (roll-ExpressionKind z)) is (λ h. subst OnForm (sym (kind_is (kind_held y))) (kind_met y (sym (kind_good (kind_held y)) ∙ h))))
      (λ x y is. subst (λ z. JoinSingle (roll-Join z)) is (λ h. subst OnJoin (sym (join_is (join_held y))) (join_met y (sym (join_good (join_held y)) ∙ h))))
      (λ x y is. subst (λ z. BodySingle (roll-QueryBody z)) is (λ h. subst OnBody (sym (body_is (body_held y))) (body_met y (sym (body_good (body_held y)) ∙ h))))
      (λ x y is. subst (λ z. ItemSingle (roll-SelectItem z)) is (λ h. subst OnItem (sym (item_is (item_held y))) (item_met y (sym (item_good (item_held y)) ∙ h))))
      (λ x y is. subst (λ z. TableSingle (roll-TableReference z)) is (λ h. subst OnTable (sym (table_is (table_held y))) (table_met y (sym (table_good (table_held y)) ∙ h))))
      (λ x y is. subst (λ z. ArmSingle (roll-CaseArm z)) is (λ h. subst OnArm (sym (arm_is (arm_held y))) (arm_met y (sym (arm_good (arm_held y)) ∙ h))))
      (λ x y is. subst (λ z. TreeSingle (roll-Expression z)) is (λ h. subst OnExpression (sym (tree_is (tree_held y))) (tree_met y (sym (tree_good (tree_held y)) ∙ h))))
      (λ x y is. subst (λ z. ElementSingle (roll-FromItem z)) is (λ h. subst OnElement (sym (element_is (element_held y))) (element_met y (sym (element_good (element_held y)) ∙ h))))
      (λ x y is. subst (λ z. QuerySingle (roll-Query z)) is (λ h. subst OnQuery (sym (query_is (query_held y))) (whole_met y (sym (query_good (query_held y)) ∙ h))))
      (λ x y is. subst (λ z. SelectSingle (roll-Select z)) is (λ h. subst OnBody (sym (select_is (select_held y))) (selected_met y (sym (select_good (select_held y)) ∙ h))))
      (λ x y is. subst (λ z. KeySingle (roll-SortKey z)) is (λ h. subst OnKey (sym (key_is (key_held y))) (key_met y (sym (key_good (key_held y)) ∙ h))))
      (λ x y is. subst (λ z. RowSingle (roll-ValuesRow z)) is (λ h. subst OnRow (sym (row_is (row_held y))) (row_met y (sym (row_good (row_held y)) ∙ h))))

  pub query_named : (x : Query) → is_lawful_query x ≡ true → OnQuery (query_of things x)
  query_named =
      ind-Query KindSingle JoinSingle BodySingle ItemSingle TableSingle ArmSingle TreeSingle ElementSingle QuerySingle SelectSingle KeySingle RowSingle
      (λ x y is. subst (λ z. KindSingle (roll-ExpressionKind z)) is (λ h. subst OnForm (sym (kind_is (kind_held y))) (kind_met y (sym (kind_good (kind_held y)) ∙ h))))
      (λ x y is. subst (λ z. JoinSingle (roll-Join z)) is (λ h. subst OnJoin (sym (join_is (join_held y))) (join_met y (sym (join_good (join_held y)) ∙ h))))
      (λ x y is. subst (λ z. BodySingle (roll-QueryBody z)) is (λ h. subst OnBody (sym (body_is (body_held y))) (body_met y (sym (body_good (body_held y)) ∙ h))))
      (λ x y is. subst (λ z. ItemSingle (roll-SelectItem z)) is (λ h. subst OnItem (sym (item_is (item_held y))) (item_met y (sym (item_good (item_held y)) ∙ h))))
      (λ x y is. subst (λ z. TableSingle (roll-TableReference z)) is (λ h. subst OnTable (sym (table_is (table_held y))) (table_met y (sym (table_good (table_held y)) ∙ h))))
      (λ x y is. subst (λ z. ArmSingle (roll-CaseArm z)) is (λ h. subst OnArm (sym (arm_is (arm_held y))) (arm_met y (sym (arm_good (arm_held y)) ∙ h))))
      (λ x y is. subst (λ z. TreeSingle (roll-Expression z)) is (λ h. subst OnExpression (sym (tree_is (tree_held y))) (tree_met y (sym (tree_good (tree_held y)) ∙ h))))
      (λ x y is. subst (λ z. ElementSingle (roll-FromItem z)) is (λ h. subst OnElement (sym (element_is (element_held y))) (element_met y (sym (element_good (element_held y)) ∙ h))))
      (λ x y is. subst (λ z. QuerySingle (roll-Query z)) is (λ h. subst OnQuery (sym (query_is (query_held y))) (whole_met y (sym (query_good (query_held y)) ∙ h))))
      (λ x y is. subst (λ z. SelectSingle (roll-Select z)) is (λ h. subst OnBody (sym (select_is (select_held y))) (selected_met y (sym (select_good (select_held y)) ∙ h))))
      (λ x y is. subst (λ z. KeySingle (roll-SortKey z)) is (λ h. subst OnKey (sym (key_is (key_held y))) (key_met y (sym (key_good (key_held y)) ∙ h))))
      (λ x y is. subst (λ z. RowSingle (roll-ValuesRow z)) is (λ h. subst OnRow (sym (row_is (row_held y))) (row_met y (sym (row_good (row_held y)) ∙ h))))

pub expression_faults : (things : Things) (e : Expression) (s : Surroundings) → is_lawful e ≡ true → AreSingle (means (part_of things e) s).faults
expression_faults things e s h = (expression_single things e h).faults (part_of things e).at s

pub query_faults : (things : Things) (q : Query) (s : Surroundings) → is_lawful_query q ≡ true → AreSingle (query_of things q s).faults
query_faults things q s h = query_named things q h s
