-- What whole trees mean is known where there is no fault.
use Rattle.std.proofs.Common.{◌≡◌, Bool, List, [], map, Option, Some, None, sym, subst}
use Rattle.hs_ast.specs.declared.expression.ExpressionKind.TheOpen.{ExpressionKind-F, Join-F, QueryBody-F, SelectItem-F, TableReference-F, CaseArm-F, Expression-F, FromItem-F, Query-F, Select-F, SortKey-F, ValuesRow-F}
use Rattle.hs_ast.specs.declared.expression.ExpressionKind.{ExpressionKind, roll-ExpressionKind, map-ExpressionKind, fold-roll-ExpressionKind}
use Rattle.hs_ast.specs.declared.query.Join.{Join, roll-Join, map-Join, fold-roll-Join}
use Rattle.hs_ast.specs.declared.query.QueryBody.{QueryBody, roll-QueryBody, map-QueryBody, fold-roll-QueryBody}
use Rattle.hs_ast.specs.declared.query.SelectItem.{SelectItem, roll-SelectItem, map-SelectItem, fold-roll-SelectItem}
use Rattle.hs_ast.specs.declared.query.TableReference.{TableReference, roll-TableReference, map-TableReference, fold-roll-TableReference}
use Rattle.hs_ast.specs.declared.expression.CaseArm.{CaseArm, roll-CaseArm, map-CaseArm, fold-roll-CaseArm}
use Rattle.hs_ast.specs.declared.expression.Expression.{Expression, roll-Expression, map-Expression, fold-roll-Expression, ind-Expression}
use Rattle.hs_ast.specs.declared.query.FromItem.{FromItem, roll-FromItem, map-FromItem, fold-roll-FromItem}
use Rattle.hs_ast.specs.declared.query.Query.{Query, roll-Query, map-Query, fold-roll-Query, ind-Query}
use Rattle.hs_ast.specs.declared.query.Select.{Select, roll-Select, map-Select, fold-roll-Select}
use Rattle.hs_ast.specs.declared.query.SortKey.{SortKey, roll-SortKey, map-SortKey, fold-roll-SortKey}
use Rattle.hs_ast.specs.declared.query.ValuesRow.{ValuesRow, roll-ValuesRow, map-ValuesRow, fold-roll-ValuesRow}
use Rattle.hs_statements.proofs.BrokenRules.{between_ruled, binary_ruled, call_ruled, case_ruled, in_list_ruled, like_ruled, substring_ruled, trim_ruled, unary_ruled}
use Rattle.hs_statements.proofs.KnownExpressions.{OnArm, OnExpression, OnForm, OnQuery, aggregate_met, all_in_met, arms_met, column_met, exists_met, in_query_met, optional_met, subquery_met}
use Rattle.hs_statements.proofs.KnownFrom.{OnElement, OnJoin, OnTable, cross_met, derived_known, named_known, on_met}
use Rattle.hs_statements.proofs.KnownParts.{Each, by_one_met, by_three_met, by_two_met, each_held, if_met, refused_met}
use Rattle.hs_statements.proofs.KnownQueries.{OnKey, OnRow, query_met, set_met, values_met}
use Rattle.hs_statements.proofs.KnownSelects.{OnBody, OnItem, OnSelect, every_met, select_met}
use Rattle.hs_statements.proofs.SeenColumns.{found_seen}
use Rattle.hs_meaning.specs.Expressions.{all_in, arm_step, arms_in, exists_meaning, form_step, in_query_meaning, null_test, optional_in, part_step, signed, subquery_meaning}
use Rattle.hs_meaning.specs.From.{element_step, join_step, table_step}
use Rattle.hs_meaning.specs.Layers.{ArmPart, BodyPart, ElementPart, Form, ItemPart, JoinPart, KeyPart, Part, QueryPart, RowPart, TablePart, means}
use Rattle.hs_meaning.specs.Parts.{meant, refused}
use Rattle.hs_meaning.specs.Queries.{body_step, key_step, query_step, row_step}
use Rattle.hs_meaning.specs.Selects.{item_step, select_step}
use Rattle.hs_meaning.specs.Surroundings.{in_aggregate, in_values}
use Rattle.hs_meaning.specs.Trees.{arm_of, body_of, element_of, form_of, item_of, join_of, key_of, part_of, query_of, row_of, select_of, table_of}
use Rattle.hs_plan.specs.declared.operator.Unary.TheVariants as u
use Rattle.hs_plan.specs.declared.query.Join.TheVariants as j
use Rattle.hs_schema.specs.Catalogue.{Things, table_named}
use Rattle.hs_scope.specs.Names.{found_in}
use Rattle.hs_typed.specs.Literals.{sql_type_of}
use Rattle.hs_typed.specs.Rules.{between_typed, binary_typed, call_typed, case_typed, in_list_typed, like_typed, rows_typed, substring_typed, trim_typed, unary_typed}
use Rattle.hs_typed.specs.declared.typed.Typed.{Typed}

module _ (things : Things) where
  abbrev KindKnown : ExpressionKind → Type 0
  KindKnown d = OnForm (form_of things d)

  abbrev KindBoth : Type 0
  KindBoth = (d : ExpressionKind) × KindKnown d

  abbrev JoinKnown : Join → Type 0
  JoinKnown d = OnJoin (join_of things d)

  abbrev JoinBoth : Type 0
  JoinBoth = (d : Join) × JoinKnown d

  abbrev BodyKnown : QueryBody → Type 0
  BodyKnown d = OnBody (body_of things d)

  abbrev BodyBoth : Type 0
  BodyBoth = (d : QueryBody) × BodyKnown d

  abbrev ItemKnown : SelectItem → Type 0
  ItemKnown d = OnItem (item_of things d)

  abbrev ItemBoth : Type 0
  ItemBoth = (d : SelectItem) × ItemKnown d

  abbrev TableKnown : TableReference → Type 0
  TableKnown d = OnTable (table_of things d)

  abbrev TableBoth : Type 0
  TableBoth = (d : TableReference) × TableKnown d

  abbrev ArmKnown : CaseArm → Type 0
  ArmKnown d = OnArm (arm_of things d)

  abbrev ArmBoth : Type 0
  ArmBoth = (d : CaseArm) × ArmKnown d

  abbrev TreeKnown : Expression → Type 0
  TreeKnown d = OnExpression (part_of things d)

  abbrev TreeBoth : Type 0
  TreeBoth = (d : Expression) × TreeKnown d

  abbrev ElementKnown : FromItem → Type 0
  ElementKnown d = OnElement (element_of things d)

  abbrev ElementBoth : Type 0
  ElementBoth = (d : FromItem) × ElementKnown d

  abbrev QueryKnown : Query → Type 0
  QueryKnown d = OnQuery (query_of things d)

  abbrev QueryBoth : Type 0
  QueryBoth = (d : Query) × QueryKnown d

  abbrev SelectKnown : Select → Type 0
  SelectKnown d = OnBody (select_of things d)

  abbrev SelectBoth : Type 0
  SelectBoth = (d : Select) × SelectKnown d

  abbrev KeyKnown : SortKey → Type 0
  KeyKnown d = OnKey (key_of things d)

  abbrev KeyBoth : Type 0
  KeyBoth = (d : SortKey) × KeyKnown d

  abbrev RowKnown : ValuesRow → Type 0
  RowKnown d = OnRow (row_of things d)

  abbrev RowBoth : Type 0
  RowBoth = (d : ValuesRow) × RowKnown d

  abbrev kind_held : ExpressionKind-F KindBoth JoinBoth BodyBoth ItemBoth TableBoth ArmBoth TreeBoth ElementBoth QueryBoth SelectBoth KeyBoth RowBoth → ExpressionKind-F ExpressionKind Join QueryBody SelectItem TableReference CaseArm Expression FromItem Query Select SortKey ValuesRow
  kind_held = map-ExpressionKind KindBoth JoinBoth BodyBoth ItemBoth TableBoth ArmBoth TreeBoth ElementBoth QueryBoth SelectBoth KeyBoth RowBoth ExpressionKind Join QueryBody SelectItem TableReference CaseArm Expression FromItem Query Select SortKey ValuesRow (λ d. d.0) (λ d. d.0) (λ d. d.0) (λ d. d.0) (λ d. d.0) (λ d. d.0) (λ d. d.0) (λ d. d.0) (λ d. d.0) (λ d. d.0) (λ d. d.0) (λ d. d.0)

  abbrev kind_out : ExpressionKind-F ExpressionKind Join QueryBody SelectItem TableReference CaseArm Expression FromItem Query Select SortKey ValuesRow → ExpressionKind-F Form JoinPart BodyPart ItemPart TablePart ArmPart Part ElementPart QueryPart BodyPart KeyPart RowPart
  kind_out = map-ExpressionKind ExpressionKind Join QueryBody SelectItem TableReference CaseArm Expression FromItem Query Select SortKey ValuesRow Form JoinPart BodyPart ItemPart TablePart ArmPart Part ElementPart QueryPart BodyPart KeyPart RowPart (form_of things) (join_of things) (body_of things) (item_of things) (table_of things) (arm_of things) (part_of things) (element_of things) (query_of things) (select_of things) (key_of things) (row_of things)

  kind_is : (x : ExpressionKind-F ExpressionKind Join QueryBody SelectItem TableReference CaseArm Expression FromItem Query Select SortKey ValuesRow) → form_of things (roll-ExpressionKind x) ≡ form_step (kind_out x)
  kind_is x = fold-roll-ExpressionKind Form JoinPart BodyPart ItemPart TablePart ArmPart Part ElementPart QueryPart BodyPart KeyPart RowPart form_step join_step body_step item_step (table_step things) arm_step part_step element_step query_step select_step key_step row_step x

  abbrev join_held : Join-F KindBoth JoinBoth BodyBoth ItemBoth TableBoth ArmBoth TreeBoth ElementBoth QueryBoth SelectBoth KeyBoth RowBoth → Join-F ExpressionKind Join QueryBody SelectItem TableReference CaseArm Expression FromItem Query Select SortKey ValuesRow
  join_held = map-Join KindBoth JoinBoth BodyBoth ItemBoth TableBoth ArmBoth TreeBoth ElementBoth QueryBoth SelectBoth KeyBoth RowBoth ExpressionKind Join QueryBody SelectItem TableReference CaseArm Expression FromItem Query Select SortKey ValuesRow (λ d. d.0) (λ d. d.0) (λ d. d.0) (λ d. d.0) (λ d. d.0) (λ d. d.0) (λ d. d.0) (λ d. d.0) (λ d. d.0) (λ d. d.0) (λ d. d.0) (λ d. d.0)

  abbrev join_out : Join-F ExpressionKind Join QueryBody SelectItem TableReference CaseArm Expression FromItem Query Select SortKey ValuesRow → Join-F Form JoinPart BodyPart ItemPart TablePart ArmPart Part ElementPart QueryPart BodyPart KeyPart RowPart
  join_out = map-Join ExpressionKind Join QueryBody SelectItem TableReference CaseArm Expression FromItem Query Select SortKey ValuesRow Form JoinPart BodyPart ItemPart TablePart ArmPart Part ElementPart QueryPart BodyPart KeyPart RowPart (form_of things) (join_of things) (body_of things) (item_of things) (table_of things) (arm_of things) (part_of things) (element_of things) (query_of things) (select_of things) (key_of things) (row_of things)

  join_is : (x : Join-F ExpressionKind Join QueryBody SelectItem TableReference CaseArm Expression FromItem Query Select SortKey ValuesRow) → join_of things (roll-Join x) ≡ join_step (join_out x)
  join_is x = fold-roll-Join Form JoinPart BodyPart ItemPart TablePart ArmPart Part ElementPart QueryPart BodyPart KeyPart RowPart form_step join_step body_step item_step (table_step things) arm_step part_step element_step query_step select_step key_step row_step x

  abbrev body_held : QueryBody-F KindBoth JoinBoth BodyBoth ItemBoth TableBoth ArmBoth TreeBoth ElementBoth QueryBoth SelectBoth KeyBoth RowBoth → QueryBody-F ExpressionKind Join QueryBody SelectItem TableReference CaseArm Expression FromItem Query Select SortKey ValuesRow
  body_held = map-QueryBody KindBoth JoinBoth BodyBoth ItemBoth TableBoth ArmBoth TreeBoth ElementBoth QueryBoth SelectBoth KeyBoth RowBoth ExpressionKind Join QueryBody SelectItem TableReference CaseArm Expression FromItem Query Select SortKey ValuesRow (λ d. d.0) (λ d. d.0) (λ d. d.0) (λ d. d.0) (λ d. d.0) (λ d. d.0) (λ d. d.0) (λ d. d.0) (λ d. d.0) (λ d. d.0) (λ d. d.0) (λ d. d.0)

  abbrev body_out : QueryBody-F ExpressionKind Join QueryBody SelectItem TableReference CaseArm Expression FromItem Query Select SortKey ValuesRow → QueryBody-F Form JoinPart BodyPart ItemPart TablePart ArmPart Part ElementPart QueryPart BodyPart KeyPart RowPart
  body_out = map-QueryBody ExpressionKind Join QueryBody SelectItem TableReference CaseArm Expression FromItem Query Select SortKey ValuesRow Form JoinPart BodyPart ItemPart TablePart ArmPart Part ElementPart QueryPart BodyPart KeyPart RowPart (form_of things) (join_of things) (body_of things) (item_of things) (table_of things) (arm_of things) (part_of things) (element_of things) (query_of things) (select_of things) (key_of things) (row_of things)

  body_is : (x : QueryBody-F ExpressionKind Join QueryBody SelectItem TableReference CaseArm Expression FromItem Query Select SortKey ValuesRow) → body_of things (roll-QueryBody x) ≡ body_step (body_out x)
  body_is x = fold-roll-QueryBody Form JoinPart BodyPart ItemPart TablePart ArmPart Part ElementPart QueryPart BodyPart KeyPart RowPart form_step join_step body_step item_step (table_step things) arm_step part_step element_step query_step select_step key_step row_step x

  abbrev item_held : SelectItem-F KindBoth JoinBoth BodyBoth ItemBoth TableBoth ArmBoth TreeBoth ElementBoth QueryBoth SelectBoth KeyBoth RowBoth → SelectItem-F ExpressionKind Join QueryBody SelectItem TableReference CaseArm Expression FromItem Query Select SortKey ValuesRow
  item_held = map-SelectItem KindBoth JoinBoth BodyBoth ItemBoth TableBoth ArmBoth TreeBoth ElementBoth QueryBoth SelectBoth KeyBoth RowBoth ExpressionKind Join QueryBody SelectItem TableReference CaseArm Expression FromItem Query Select SortKey ValuesRow (λ d. d.0) (λ d. d.0) (λ d. d.0) (λ d. d.0) (λ d. d.0) (λ d. d.0) (λ d. d.0) (λ d. d.0) (λ d. d.0) (λ d. d.0) (λ d. d.0) (λ d. d.0)

  abbrev item_out : SelectItem-F ExpressionKind Join QueryBody SelectItem TableReference CaseArm Expression FromItem Query Select SortKey ValuesRow → SelectItem-F Form JoinPart BodyPart ItemPart TablePart ArmPart Part ElementPart QueryPart BodyPart KeyPart RowPart
  item_out = map-SelectItem ExpressionKind Join QueryBody SelectItem TableReference CaseArm Expression FromItem Query Select SortKey ValuesRow Form JoinPart BodyPart ItemPart TablePart ArmPart Part ElementPart QueryPart BodyPart KeyPart RowPart (form_of things) (join_of things) (body_of things) (item_of things) (table_of things) (arm_of things) (part_of things) (element_of things) (query_of things) (select_of things) (key_of things) (row_of things)

  item_is : (x : SelectItem-F ExpressionKind Join QueryBody SelectItem TableReference CaseArm Expression FromItem Query Select SortKey ValuesRow) → item_of things (roll-SelectItem x) ≡ item_step (item_out x)
  item_is x = fold-roll-SelectItem Form JoinPart BodyPart ItemPart TablePart ArmPart Part ElementPart QueryPart BodyPart KeyPart RowPart form_step join_step body_step item_step (table_step things) arm_step part_step element_step query_step select_step key_step row_step x

  abbrev table_held : TableReference-F KindBoth JoinBoth BodyBoth ItemBoth TableBoth ArmBoth TreeBoth ElementBoth QueryBoth SelectBoth KeyBoth RowBoth → TableReference-F ExpressionKind Join QueryBody SelectItem TableReference CaseArm Expression FromItem Query Select SortKey ValuesRow
  table_held = map-TableReference KindBoth JoinBoth BodyBoth ItemBoth TableBoth ArmBoth TreeBoth ElementBoth QueryBoth SelectBoth KeyBoth RowBoth ExpressionKind Join QueryBody SelectItem TableReference CaseArm Expression FromItem Query Select SortKey ValuesRow (λ d. d.0) (λ d. d.0) (λ d. d.0) (λ d. d.0) (λ d. d.0) (λ d. d.0) (λ d. d.0) (λ d. d.0) (λ d. d.0) (λ d. d.0) (λ d. d.0) (λ d. d.0)

  abbrev table_out : TableReference-F ExpressionKind Join QueryBody SelectItem TableReference CaseArm Expression FromItem Query Select SortKey ValuesRow → TableReference-F Form JoinPart BodyPart ItemPart TablePart ArmPart Part ElementPart QueryPart BodyPart KeyPart RowPart
  table_out = map-TableReference ExpressionKind Join QueryBody SelectItem TableReference CaseArm Expression FromItem Query Select SortKey ValuesRow Form JoinPart BodyPart ItemPart TablePart ArmPart Part ElementPart QueryPart BodyPart KeyPart RowPart (form_of things) (join_of things) (body_of things) (item_of things) (table_of things) (arm_of things) (part_of things) (element_of things) (query_of things) (select_of things) (key_of things) (row_of things)

  table_is : (x : TableReference-F ExpressionKind Join QueryBody SelectItem TableReference CaseArm Expression FromItem Query Select SortKey ValuesRow) → table_of things (roll-TableReference x) ≡ (table_step things) (table_out x)
  table_is x = fold-roll-TableReference Form JoinPart BodyPart ItemPart TablePart ArmPart Part ElementPart QueryPart BodyPart KeyPart RowPart form_step join_step body_step item_step (table_step things) arm_step part_step element_step query_step select_step key_step row_step x

  abbrev arm_held : CaseArm-F KindBoth JoinBoth BodyBoth ItemBoth TableBoth ArmBoth TreeBoth ElementBoth QueryBoth SelectBoth KeyBoth RowBoth → CaseArm-F ExpressionKind Join QueryBody SelectItem TableReference CaseArm Expression FromItem Query Select SortKey ValuesRow
  arm_held = map-CaseArm KindBoth JoinBoth BodyBoth ItemBoth TableBoth ArmBoth TreeBoth ElementBoth QueryBoth SelectBoth KeyBoth RowBoth ExpressionKind Join QueryBody SelectItem TableReference CaseArm Expression FromItem Query Select SortKey ValuesRow (λ d. d.0) (λ d. d.0) (λ d. d.0) (λ d. d.0) (λ d. d.0) (λ d. d.0) (λ d. d.0) (λ d. d.0) (λ d. d.0) (λ d. d.0) (λ d. d.0) (λ d. d.0)

  abbrev arm_out : CaseArm-F ExpressionKind Join QueryBody SelectItem TableReference CaseArm Expression FromItem Query Select SortKey ValuesRow → CaseArm-F Form JoinPart BodyPart ItemPart TablePart ArmPart Part ElementPart QueryPart BodyPart KeyPart RowPart
  arm_out = map-CaseArm ExpressionKind Join QueryBody SelectItem TableReference CaseArm Expression FromItem Query Select SortKey ValuesRow Form JoinPart BodyPart ItemPart TablePart ArmPart Part ElementPart QueryPart BodyPart KeyPart RowPart (form_of things) (join_of things) (body_of things) (item_of things) (table_of things) (arm_of things) (part_of things) (element_of things) (query_of things) (select_of things) (key_of things) (row_of things)

  arm_is : (x : CaseArm-F ExpressionKind Join QueryBody SelectItem TableReference CaseArm Expression FromItem Query Select SortKey ValuesRow) → arm_of things (roll-CaseArm x) ≡ arm_step (arm_out x)
  arm_is x = fold-roll-CaseArm Form JoinPart BodyPart ItemPart TablePart ArmPart Part ElementPart QueryPart BodyPart KeyPart RowPart form_step join_step body_step item_step (table_step things) arm_step part_step element_step query_step select_step key_step row_step x

  abbrev tree_held : Expression-F KindBoth JoinBoth BodyBoth ItemBoth TableBoth ArmBoth TreeBoth ElementBoth QueryBoth SelectBoth KeyBoth RowBoth → Expression-F ExpressionKind Join QueryBody SelectItem TableReference CaseArm Expression FromItem Query Select SortKey ValuesRow
  tree_held = map-Expression KindBoth JoinBoth BodyBoth ItemBoth TableBoth ArmBoth TreeBoth ElementBoth QueryBoth SelectBoth KeyBoth RowBoth ExpressionKind Join QueryBody SelectItem TableReference CaseArm Expression FromItem Query Select SortKey ValuesRow (λ d. d.0) (λ d. d.0) (λ d. d.0) (λ d. d.0) (λ d. d.0) (λ d. d.0) (λ d. d.0) (λ d. d.0) (λ d. d.0) (λ d. d.0) (λ d. d.0) (λ d. d.0)

  abbrev tree_out : Expression-F ExpressionKind Join QueryBody SelectItem TableReference CaseArm Expression FromItem Query Select SortKey ValuesRow → Expression-F Form JoinPart BodyPart ItemPart TablePart ArmPart Part ElementPart QueryPart BodyPart KeyPart RowPart
  tree_out = map-Expression ExpressionKind Join QueryBody SelectItem TableReference CaseArm Expression FromItem Query Select SortKey ValuesRow Form JoinPart BodyPart ItemPart TablePart ArmPart Part ElementPart QueryPart BodyPart KeyPart RowPart (form_of things) (join_of things) (body_of things) (item_of things) (table_of things) (arm_of things) (part_of things) (element_of things) (query_of things) (select_of things) (key_of things) (row_of things)

  tree_is : (x : Expression-F ExpressionKind Join QueryBody SelectItem TableReference CaseArm Expression FromItem Query Select SortKey ValuesRow) → part_of things (roll-Expression x) ≡ part_step (tree_out x)
  tree_is x = fold-roll-Expression Form JoinPart BodyPart ItemPart TablePart ArmPart Part ElementPart QueryPart BodyPart KeyPart RowPart form_step join_step body_step item_step (table_step things) arm_step part_step element_step query_step select_step key_step row_step x

  abbrev element_held : FromItem-F KindBoth JoinBoth BodyBoth ItemBoth TableBoth ArmBoth TreeBoth ElementBoth QueryBoth SelectBoth KeyBoth RowBoth → FromItem-F ExpressionKind Join QueryBody SelectItem TableReference CaseArm Expression FromItem Query Select SortKey ValuesRow
  element_held = map-FromItem KindBoth JoinBoth BodyBoth ItemBoth TableBoth ArmBoth TreeBoth ElementBoth QueryBoth SelectBoth KeyBoth RowBoth ExpressionKind Join QueryBody SelectItem TableReference CaseArm Expression FromItem Query Select SortKey ValuesRow (λ d. d.0) (λ d. d.0) (λ d. d.0) (λ d. d.0) (λ d. d.0) (λ d. d.0) (λ d. d.0) (λ d. d.0) (λ d. d.0) (λ d. d.0) (λ d. d.0) (λ d. d.0)

  abbrev element_out : FromItem-F ExpressionKind Join QueryBody SelectItem TableReference CaseArm Expression FromItem Query Select SortKey ValuesRow → FromItem-F Form JoinPart BodyPart ItemPart TablePart ArmPart Part ElementPart QueryPart BodyPart KeyPart RowPart
  element_out = map-FromItem ExpressionKind Join QueryBody SelectItem TableReference CaseArm Expression FromItem Query Select SortKey ValuesRow Form JoinPart BodyPart ItemPart TablePart ArmPart Part ElementPart QueryPart BodyPart KeyPart RowPart (form_of things) (join_of things) (body_of things) (item_of things) (table_of things) (arm_of things) (part_of things) (element_of things) (query_of things) (select_of things) (key_of things) (row_of things)

  element_is : (x : FromItem-F ExpressionKind Join QueryBody SelectItem TableReference CaseArm Expression FromItem Query Select SortKey ValuesRow) → element_of things (roll-FromItem x) ≡ element_step (element_out x)
  element_is x = fold-roll-FromItem Form JoinPart BodyPart ItemPart TablePart ArmPart Part ElementPart QueryPart BodyPart KeyPart RowPart form_step join_step body_step item_step (table_step things) arm_step part_step element_step query_step select_step key_step row_step x

  abbrev query_held : Query-F KindBoth JoinBoth BodyBoth ItemBoth TableBoth ArmBoth TreeBoth ElementBoth QueryBoth SelectBoth KeyBoth RowBoth → Query-F ExpressionKind Join QueryBody SelectItem TableReference CaseArm Expression FromItem Query Select SortKey ValuesRow
  query_held = map-Query KindBoth JoinBoth BodyBoth ItemBoth TableBoth ArmBoth TreeBoth ElementBoth QueryBoth SelectBoth KeyBoth RowBoth ExpressionKind Join QueryBody SelectItem TableReference CaseArm Expression FromItem Query Select SortKey ValuesRow (λ d. d.0) (λ d. d.0) (λ d. d.0) (λ d. d.0) (λ d. d.0) (λ d. d.0) (λ d. d.0) (λ d. d.0) (λ d. d.0) (λ d. d.0) (λ d. d.0) (λ d. d.0)

  abbrev query_out : Query-F ExpressionKind Join QueryBody SelectItem TableReference CaseArm Expression FromItem Query Select SortKey ValuesRow → Query-F Form JoinPart BodyPart ItemPart TablePart ArmPart Part ElementPart QueryPart BodyPart KeyPart RowPart
  query_out = map-Query ExpressionKind Join QueryBody SelectItem TableReference CaseArm Expression FromItem Query Select SortKey ValuesRow Form JoinPart BodyPart ItemPart TablePart ArmPart Part ElementPart QueryPart BodyPart KeyPart RowPart (form_of things) (join_of things) (body_of things) (item_of things) (table_of things) (arm_of things) (part_of things) (element_of things) (query_of things) (select_of things) (key_of things) (row_of things)

  query_is : (x : Query-F ExpressionKind Join QueryBody SelectItem TableReference CaseArm Expression FromItem Query Select SortKey ValuesRow) → query_of things (roll-Query x) ≡ query_step (query_out x)
  query_is x = fold-roll-Query Form JoinPart BodyPart ItemPart TablePart ArmPart Part ElementPart QueryPart BodyPart KeyPart RowPart form_step join_step body_step item_step (table_step things) arm_step part_step element_step query_step select_step key_step row_step x

  abbrev select_held : Select-F KindBoth JoinBoth BodyBoth ItemBoth TableBoth ArmBoth TreeBoth ElementBoth QueryBoth SelectBoth KeyBoth RowBoth → Select-F ExpressionKind Join QueryBody SelectItem TableReference CaseArm Expression FromItem Query Select SortKey ValuesRow
  select_held = map-Select KindBoth JoinBoth BodyBoth ItemBoth TableBoth ArmBoth TreeBoth ElementBoth QueryBoth SelectBoth KeyBoth RowBoth ExpressionKind Join QueryBody SelectItem TableReference CaseArm Expression FromItem Query Select SortKey ValuesRow (λ d. d.0) (λ d. d.0) (λ d. d.0) (λ d. d.0) (λ d. d.0) (λ d. d.0) (λ d. d.0) (λ d. d.0) (λ d. d.0) (λ d. d.0) (λ d. d.0) (λ d. d.0)

  abbrev select_out : Select-F ExpressionKind Join QueryBody SelectItem TableReference CaseArm Expression FromItem Query Select SortKey ValuesRow → Select-F Form JoinPart BodyPart ItemPart TablePart ArmPart Part ElementPart QueryPart BodyPart KeyPart RowPart
  select_out = map-Select ExpressionKind Join QueryBody SelectItem TableReference CaseArm Expression FromItem Query Select SortKey ValuesRow Form JoinPart BodyPart ItemPart TablePart ArmPart Part ElementPart QueryPart BodyPart KeyPart RowPart (form_of things) (join_of things) (body_of things) (item_of things) (table_of things) (arm_of things) (part_of things) (element_of things) (query_of things) (select_of things) (key_of things) (row_of things)

  select_is : (x : Select-F ExpressionKind Join QueryBody SelectItem TableReference CaseArm Expression FromItem Query Select SortKey ValuesRow) → select_of things (roll-Select x) ≡ select_step (select_out x)
  select_is x = fold-roll-Select Form JoinPart BodyPart ItemPart TablePart ArmPart Part ElementPart QueryPart BodyPart KeyPart RowPart form_step join_step body_step item_step (table_step things) arm_step part_step element_step query_step select_step key_step row_step x

  abbrev key_held : SortKey-F KindBoth JoinBoth BodyBoth ItemBoth TableBoth ArmBoth TreeBoth ElementBoth QueryBoth SelectBoth KeyBoth RowBoth → SortKey-F ExpressionKind Join QueryBody SelectItem TableReference CaseArm Expression FromItem Query Select SortKey ValuesRow
  key_held = map-SortKey KindBoth JoinBoth BodyBoth ItemBoth TableBoth ArmBoth TreeBoth ElementBoth QueryBoth SelectBoth KeyBoth RowBoth ExpressionKind Join QueryBody SelectItem TableReference CaseArm Expression FromItem Query Select SortKey ValuesRow (λ d. d.0) (λ d. d.0) (λ d. d.0) (λ d. d.0) (λ d. d.0) (λ d. d.0) (λ d. d.0) (λ d. d.0) (λ d. d.0) (λ d. d.0) (λ d. d.0) (λ d. d.0)

  abbrev key_out : SortKey-F ExpressionKind Join QueryBody SelectItem TableReference CaseArm Expression FromItem Query Select SortKey ValuesRow → SortKey-F Form JoinPart BodyPart ItemPart TablePart ArmPart Part ElementPart QueryPart BodyPart KeyPart RowPart
  key_out = map-SortKey ExpressionKind Join QueryBody SelectItem TableReference CaseArm Expression FromItem Query Select SortKey ValuesRow Form JoinPart BodyPart ItemPart TablePart ArmPart Part ElementPart QueryPart BodyPart KeyPart RowPart (form_of things) (join_of things) (body_of things) (item_of things) (table_of things) (arm_of things) (part_of things) (element_of things) (query_of things) (select_of things) (key_of things) (row_of things)

  key_is : (x : SortKey-F ExpressionKind Join QueryBody SelectItem TableReference CaseArm Expression FromItem Query Select SortKey ValuesRow) → key_of things (roll-SortKey x) ≡ key_step (key_out x)
  key_is x = fold-roll-SortKey Form JoinPart BodyPart ItemPart TablePart ArmPart Part ElementPart QueryPart BodyPart KeyPart RowPart form_step join_step body_step item_step (table_step things) arm_step part_step element_step query_step select_step key_step row_step x

  abbrev row_held : ValuesRow-F KindBoth JoinBoth BodyBoth ItemBoth TableBoth ArmBoth TreeBoth ElementBoth QueryBoth SelectBoth KeyBoth RowBoth → ValuesRow-F ExpressionKind Join QueryBody SelectItem TableReference CaseArm Expression FromItem Query Select SortKey ValuesRow
  row_held = map-ValuesRow KindBoth JoinBoth BodyBoth ItemBoth TableBoth ArmBoth TreeBoth ElementBoth QueryBoth SelectBoth KeyBoth RowBoth ExpressionKind Join QueryBody SelectItem TableReference CaseArm Expression FromItem Query Select SortKey ValuesRow (λ d. d.0) (λ d. d.0) (λ d. d.0) (λ d. d.0) (λ d. d.0) (λ d. d.0) (λ d. d.0) (λ d. d.0) (λ d. d.0) (λ d. d.0) (λ d. d.0) (λ d. d.0)

  abbrev row_out : ValuesRow-F ExpressionKind Join QueryBody SelectItem TableReference CaseArm Expression FromItem Query Select SortKey ValuesRow → ValuesRow-F Form JoinPart BodyPart ItemPart TablePart ArmPart Part ElementPart QueryPart BodyPart KeyPart RowPart
  row_out = map-ValuesRow ExpressionKind Join QueryBody SelectItem TableReference CaseArm Expression FromItem Query Select SortKey ValuesRow Form JoinPart BodyPart ItemPart TablePart ArmPart Part ElementPart QueryPart BodyPart KeyPart RowPart (form_of things) (join_of things) (body_of things) (item_of things) (table_of things) (arm_of things) (part_of things) (element_of things) (query_of things) (select_of things) (key_of things) (row_of things)

  row_is : (x : ValuesRow-F ExpressionKind Join QueryBody SelectItem TableReference CaseArm Expression FromItem Query Select SortKey ValuesRow) → row_of things (roll-ValuesRow x) ≡ row_step (row_out x)
  row_is x = fold-roll-ValuesRow Form JoinPart BodyPart ItemPart TablePart ArmPart Part ElementPart QueryPart BodyPart KeyPart RowPart form_step join_step body_step item_step (table_step things) arm_step part_step element_step query_step select_step key_step row_step x

  abbrev parts : List TreeBoth → List Part
  parts list = map (part_of things) (map (λ x. x.0) list)

  parts_on : (list : List TreeBoth) → Each OnExpression (parts list)
  parts_on list = each_held OnExpression (part_of things) list

  abbrev arms : List ArmBoth → List ArmPart
  arms list = map (arm_of things) (map (λ x. x.0) list)

  arms_on : (list : List ArmBoth) → Each OnArm (arms list)
  arms_on list = each_held OnArm (arm_of things) list

  kind_met : (y : ExpressionKind-F KindBoth JoinBoth BodyBoth ItemBoth TableBoth ArmBoth TreeBoth ElementBoth QueryBoth SelectBoth KeyBoth RowBoth) → OnForm (form_step (kind_out (kind_held y)))
  kind_met (ExpressionKind-F.Literal literal) = λ at s seen none. tt
  kind_met (ExpressionKind-F.Column name) = λ at s seen. column_met at s name (found_in s.scopes name) (found_seen s.scopes name seen)
  kind_met (ExpressionKind-F.Signed sign a) = λ at s seen. by_one_met (unary_typed (signed sign)) at (means (part_of things a.0) s) (unary_ruled (signed sign)) (a.1 s seen)
  kind_met (ExpressionKind-F.Not a) = λ at s seen. by_one_met (unary_typed u.Not) at (means (part_of things a.0) s) (unary_ruled u.Not) (a.1 s seen)
  kind_met (ExpressionKind-F.Binary operator a b) = λ at s seen. by_two_met (binary_typed operator) at (means (part_of things a.0) s) (means (part_of things b.0) s) (binary_ruled operator) (a.1 s seen) (b.1 s seen)
  kind_met (ExpressionKind-F.IsNull a negated) = λ at s seen. by_one_met (unary_typed (null_test negated)) at (means (part_of things a.0) s) (unary_ruled (null_test negated)) (a.1 s seen)
  kind_met (ExpressionKind-F.Between a negated low high) = λ at s seen. by_three_met (between_typed negated) at (means (part_of things a.0) s) (means (part_of things low.0) s) (means (part_of things high.0) s) (between_ruled negated) (a.1 s seen) (low.1 s seen) (high.1 s seen)
  kind_met (ExpressionKind-F.InList a negated list) = λ at s seen. by_two_met (in_list_typed negated) at (means (part_of things a.0) s) (all_in s (parts list)) (in_list_ruled negated) (a.1 s seen) (all_in_met s (parts list) seen (parts_on list))
  kind_met (ExpressionKind-F.InQuery a negated query) = λ at s seen.
      if_met s.queries (in_query_meaning negated at (means (part_of things a.0) s) (query_of things query.0 s)) (refused at (means (part_of things a.0) s).faults)
      (in_query_met negated at (means (part_of things a.0) s) (query_of things query.0 s) (a.1 s seen) (query.1 s seen)) (refused_met Typed at (means (part_of things a.0) s).faults)
  kind_met (ExpressionKind-F.Like a negated pattern escape) = λ at s seen. by_two_met (λ x p. like_typed negated x p escape) at (means (part_of things a.0) s) (means (part_of things pattern.0) s) (λ x p. like_ruled negated x p escape) (a.1 s seen) (pattern.1 s seen)
  kind_met (ExpressionKind-F.Exists query) = λ at s seen. if_met s.queries (exists_meaning at (query_of things query.0 s)) (refused at []) (exists_met at (query_of things query.0 s) (query.1 s seen)) (refused_met Typed at [])
  kind_met (ExpressionKind-F.Subquery query) = λ at s seen. if_met s.queries (subquery_meaning at (query_of things query.0 s)) (refused at []) (subquery_met at (query_of things query.0 s) (query.1 s seen)) (refused_met Typed at [])
  kind_met (ExpressionKind-F.Cast a data_type) = λ at s seen. by_one_met (unary_typed (u.Cast (sql_type_of data_type))) at (means (part_of things a.0) s) (unary_ruled (u.Cast (sql_type_of data_type))) (a.1 s seen)
  kind_met (ExpressionKind-F.Case list None) = λ at s seen. by_two_met case_typed at (arms_in s (arms list)) (optional_in s None) case_ruled (arms_met s (arms list) seen (arms_on list)) (optional_met s None seen tt)
  kind_met (ExpressionKind-F.Case list (Some otherwise)) = λ at s seen.
      by_two_met case_typed at (arms_in s (arms list)) (optional_in s (Some (part_of things otherwise.0))) case_ruled (arms_met s (arms list) seen (arms_on list)) (optional_met s (Some (part_of things otherwise.0)) seen otherwise.1)
  kind_met (ExpressionKind-F.Call function arguments) = λ at s seen. by_one_met (call_typed function) at (all_in s (parts arguments)) (call_ruled function) (all_in_met s (parts arguments) seen (parts_on arguments))
  kind_met (ExpressionKind-F.Substring text start None) = λ at s seen. by_three_met substring_typed at (means (part_of things text.0) s) (means (part_of things start.0) s) (optional_in s None) substring_ruled (text.1 s seen) (start.1 s seen) (optional_met s None seen tt)
  kind_met (ExpressionKind-F.Substring text start (Some count)) = λ at s seen.
      by_three_met substring_typed at (means (part_of things text.0) s) (means (part_of things start.0) s) (optional_in s (Some (part_of things count.0))) substring_ruled (text.1 s seen) (start.1 s seen) (optional_met s (Some (part_of things count.0)) seen count.1)
  kind_met (ExpressionKind-F.Trim manner None text) = λ at s seen. by_two_met (trim_typed manner) at (optional_in s None) (means (part_of things text.0) s) (trim_ruled manner) (optional_met s None seen tt) (text.1 s seen)
  kind_met (ExpressionKind-F.Trim manner (Some character) text) = λ at s seen.
      by_two_met (trim_typed manner) at (optional_in s (Some (part_of things character.0))) (means (part_of things text.0) s) (trim_ruled manner) (optional_met s (Some (part_of things character.0)) seen character.1) (text.1 s seen)
  kind_met (ExpressionKind-F.Extract field a) = λ at s seen. by_one_met (unary_typed (u.Extract field)) at (means (part_of things a.0) s) (unary_ruled (u.Extract field)) (a.1 s seen)
  kind_met (ExpressionKind-F.Interval a sign count unit) = λ at s seen. by_one_met (unary_typed (u.Interval sign count unit)) at (means (part_of things a.0) s) (unary_ruled (u.Interval sign count unit)) (a.1 s seen)
  kind_met ExpressionKind-F.CountRows = λ at s seen. if_met s.aggregates (meant rows_typed) (refused at []) (λ none. tt) (refused_met Typed at [])
  kind_met (ExpressionKind-F.Aggregate function distinct a) = λ at s seen. aggregate_met function distinct at s (means (part_of things a.0) (in_aggregate s)) (a.1 (in_aggregate s) seen)

  join_met : (y : Join-F KindBoth JoinBoth BodyBoth ItemBoth TableBoth ArmBoth TreeBoth ElementBoth QueryBoth SelectBoth KeyBoth RowBoth) → OnJoin (join_step (join_out (join_held y)))
  join_met (Join-F.Inner t on) = record { table = t.1; on = λ s source seen k. on_met j.Inner (part_of things on.0) s source on.1 seen k }
  join_met (Join-F.Left t on) = record { table = t.1; on = λ s source seen k. on_met j.Left (part_of things on.0) s source on.1 seen k }
  join_met (Join-F.Cross t) = record { table = t.1; on = λ s source seen k. cross_met s source k }

  body_met : (y : QueryBody-F KindBoth JoinBoth BodyBoth ItemBoth TableBoth ArmBoth TreeBoth ElementBoth QueryBoth SelectBoth KeyBoth RowBoth) → OnBody (body_step (body_out (body_held y)))
  body_met (QueryBody-F.Select select) = λ s seen none. select.1 s seen none
  body_met (QueryBody-F.Values rows) = λ s seen none. values_met (map (row_of things) (map (λ x. x.0) rows)) (in_values s) seen (each_held OnRow (row_of things) rows) none
  body_met (QueryBody-F.SetOperation operator left right) = λ s seen none. set_met operator s (body_of things left.0 s) (body_of things right.0 s) seen (left.1 s seen) (right.1 s seen) none

  item_met : (y : SelectItem-F KindBoth JoinBoth BodyBoth ItemBoth TableBoth ArmBoth TreeBoth ElementBoth QueryBoth SelectBoth KeyBoth RowBoth) → OnItem (item_step (item_out (item_held y)))
  item_met (SelectItem-F.Every at) = λ s seen none. every_met at s seen none
  item_met (SelectItem-F.One at shown alias) = λ s seen none. (shown.1 s seen none, tt)

  table_met : (y : TableReference-F KindBoth JoinBoth BodyBoth ItemBoth TableBoth ArmBoth TreeBoth ElementBoth QueryBoth SelectBoth KeyBoth RowBoth) → OnTable (table_step things (table_out (table_held y)))
  table_met (TableReference-F.Named name alias) = λ s seen none. named_known name (table_named things name.name) none
  table_met (TableReference-F.Derived query alias) = λ s seen none. derived_known (query_of things query.0 s) (query.1 s seen none)

  arm_met : (y : CaseArm-F KindBoth JoinBoth BodyBoth ItemBoth TableBoth ArmBoth TreeBoth ElementBoth QueryBoth SelectBoth KeyBoth RowBoth) → OnArm (arm_step (arm_out (arm_held y)))
  arm_met y = record { test = y.test.1; value = y.value.1 }

  tree_met : (y : Expression-F KindBoth JoinBoth BodyBoth ItemBoth TableBoth ArmBoth TreeBoth ElementBoth QueryBoth SelectBoth KeyBoth RowBoth) → OnExpression (part_step (tree_out (tree_held y)))
  tree_met y = λ s seen. y.kind.1 y.at s seen

  element_met : (y : FromItem-F KindBoth JoinBoth BodyBoth ItemBoth TableBoth ArmBoth TreeBoth ElementBoth QueryBoth SelectBoth KeyBoth RowBoth) → OnElement (element_step (element_out (element_held y)))
  element_met y = record { table = y.table.1; joins = each_held OnJoin (join_of things) y.joins }

  whole_met : (y : Query-F KindBoth JoinBoth BodyBoth ItemBoth TableBoth ArmBoth TreeBoth ElementBoth QueryBoth SelectBoth KeyBoth RowBoth) → OnQuery (query_step (query_out (query_held y)))
  whole_met y = query_met (query_out (query_held y)) y.body.1 (each_held OnKey (key_of things) y.order_by)

  abbrev spelled : Bool → List ItemBoth → List ElementBoth → Option TreeBoth → List TreeBoth → Option TreeBoth → Select-F KindBoth JoinBoth BodyBoth ItemBoth TableBoth ArmBoth TreeBoth ElementBoth QueryBoth SelectBoth KeyBoth RowBoth
  spelled distinct items from filter group_by having = record { distinct = distinct; items = items; from = from; filter = filter; group_by = group_by; having = having }

  select_on : (distinct : Bool) (items : List ItemBoth) (from : List ElementBoth) (filter : Option TreeBoth) (group_by : List TreeBoth) (having : Option TreeBoth) → OnSelect (select_out (select_held (spelled distinct items from filter group_by having)))
  select_on distinct items from None group_by None =
      record { items = each_held OnItem (item_of things) items; from = each_held OnElement (element_of things) from; filter = tt; group_by = parts_on group_by; having = tt }
  select_on distinct items from None group_by (Some v) =
      record { items = each_held OnItem (item_of things) items; from = each_held OnElement (element_of things) from; filter = tt; group_by = parts_on group_by; having = v.1 }
  select_on distinct items from (Some w) group_by None =
      record { items = each_held OnItem (item_of things) items; from = each_held OnElement (element_of things) from; filter = w.1; group_by = parts_on group_by; having = tt }
  select_on distinct items from (Some w) group_by (Some v) =
      record { items = each_held OnItem (item_of things) items; from = each_held OnElement (element_of things) from; filter = w.1; group_by = parts_on group_by; having = v.1 }

  selected_met : (y : Select-F KindBoth JoinBoth BodyBoth ItemBoth TableBoth ArmBoth TreeBoth ElementBoth QueryBoth SelectBoth KeyBoth RowBoth) → OnBody (select_step (select_out (select_held y)))
  selected_met y = select_met (select_out (select_held y)) (select_on y.distinct y.items y.from y.filter y.group_by y.having)

  key_met : (y : SortKey-F KindBoth JoinBoth BodyBoth ItemBoth TableBoth ArmBoth TreeBoth ElementBoth QueryBoth SelectBoth KeyBoth RowBoth) → OnKey (key_step (key_out (key_held y)))
  key_met y = λ s seen. y.value.1 s seen

  row_met : (y : ValuesRow-F KindBoth JoinBoth BodyBoth ItemBoth TableBoth ArmBoth TreeBoth ElementBoth QueryBoth SelectBoth KeyBoth RowBoth) → OnRow (row_step (row_out (row_held y)))
  row_met y = parts_on y.values

  -- ---- whole trees

  pub expression_known : (x : Expression) → OnExpression (part_of things x)
  expression_known =
      ind-Expression KindKnown JoinKnown BodyKnown ItemKnown TableKnown ArmKnown TreeKnown ElementKnown QueryKnown SelectKnown KeyKnown RowKnown
      (λ x y is. subst (λ z. KindKnown (roll-ExpressionKind z)) is (subst OnForm (sym (kind_is (kind_held y))) (kind_met y)))
      (λ x y is. subst (λ z. JoinKnown (roll-Join z)) is (subst OnJoin (sym (join_is (join_held y))) (join_met y)))
      (λ x y is. subst (λ z. BodyKnown (roll-QueryBody z)) is (subst OnBody (sym (body_is (body_held y))) (body_met y)))
      (λ x y is. subst (λ z. ItemKnown (roll-SelectItem z)) is (subst OnItem (sym (item_is (item_held y))) (item_met y)))
      (λ x y is. subst (λ z. TableKnown (roll-TableReference z)) is (subst OnTable (sym (table_is (table_held y))) (table_met y)))
      (λ x y is. subst (λ z. ArmKnown (roll-CaseArm z)) is (subst OnArm (sym (arm_is (arm_held y))) (arm_met y)))
      (λ x y is. subst (λ z. TreeKnown (roll-Expression z)) is (subst OnExpression (sym (tree_is (tree_held y))) (tree_met y)))
      (λ x y is. subst (λ z. ElementKnown (roll-FromItem z)) is (subst OnElement (sym (element_is (element_held y))) (element_met y)))
      (λ x y is. subst (λ z. QueryKnown (roll-Query z)) is (subst OnQuery (sym (query_is (query_held y))) (whole_met y)))
      (λ x y is. subst (λ z. SelectKnown (roll-Select z)) is (subst OnBody (sym (select_is (select_held y))) (selected_met y)))
      (λ x y is. subst (λ z. KeyKnown (roll-SortKey z)) is (subst OnKey (sym (key_is (key_held y))) (key_met y)))
      (λ x y is. subst (λ z. RowKnown (roll-ValuesRow z)) is (subst OnRow (sym (row_is (row_held y))) (row_met y)))

  pub query_known : (x : Query) → OnQuery (query_of things x)
  query_known =
      ind-Query KindKnown JoinKnown BodyKnown ItemKnown TableKnown ArmKnown TreeKnown ElementKnown QueryKnown SelectKnown KeyKnown RowKnown
      (λ x y is. subst (λ z. KindKnown (roll-ExpressionKind z)) is (subst OnForm (sym (kind_is (kind_held y))) (kind_met y)))
      (λ x y is. subst (λ z. JoinKnown (roll-Join z)) is (subst OnJoin (sym (join_is (join_held y))) (join_met y)))
      (λ x y is. subst (λ z. BodyKnown (roll-QueryBody z)) is (subst OnBody (sym (body_is (body_held y))) (body_met y)))
      (λ x y is. subst (λ z. ItemKnown (roll-SelectItem z)) is (subst OnItem (sym (item_is (item_held y))) (item_met y)))
      (λ x y is. subst (λ z. TableKnown (roll-TableReference z)) is (subst OnTable (sym (table_is (table_held y))) (table_met y)))
      (λ x y is. subst (λ z. ArmKnown (roll-CaseArm z)) is (subst OnArm (sym (arm_is (arm_held y))) (arm_met y)))
      (λ x y is. subst (λ z. TreeKnown (roll-Expression z)) is (subst OnExpression (sym (tree_is (tree_held y))) (tree_met y)))
      (λ x y is. subst (λ z. ElementKnown (roll-FromItem z)) is (subst OnElement (sym (element_is (element_held y))) (element_met y)))
      (λ x y is. subst (λ z. QueryKnown (roll-Query z)) is (subst OnQuery (sym (query_is (query_held y))) (whole_met y)))
      (λ x y is. subst (λ z. SelectKnown (roll-Select z)) is (subst OnBody (sym (select_is (select_held y))) (selected_met y)))
      (λ x y is. subst (λ z. KeyKnown (roll-SortKey z)) is (subst OnKey (sym (key_is (key_held y))) (key_met y)))
      (λ x y is. subst (λ z. RowKnown (roll-ValuesRow z)) is (subst OnRow (sym (row_is (row_held y))) (row_met y)))
