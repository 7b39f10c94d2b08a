-- What the rules of the literal grammar mean by the definition of how a tree is spelled, made by grammar/make_spelling.py.
use Rattle.std.proofs.Common.{◌≡◌, ℕ, Bool, List, [], ◌∷◌, ◌++◌, Option, Some, None, if◌then◌else◌}
use Rattle.std.specs.Prelude.{nat_eq}
use Rattle.hs_ast.specs.declared.change.Assignment.{Assignment}
use Rattle.hs_ast.specs.declared.change.InsertSource.TheVariants as source
use Rattle.hs_ast.specs.declared.change.LockedTable.{LockedTable}
use Rattle.hs_ast.specs.declared.change.NewValue.{NewValue}
use Rattle.hs_ast.specs.declared.definition.ColumnConstraint.{ColumnConstraint}
use Rattle.hs_ast.specs.declared.definition.ColumnDefinition.{ColumnDefinition}
use Rattle.hs_ast.specs.declared.definition.DataType.{DataType}
use Rattle.hs_ast.specs.declared.definition.DefaultValue.{DefaultValue}
use Rattle.hs_ast.specs.declared.definition.ForeignKey.{ForeignKey}
use Rattle.hs_ast.specs.declared.definition.ReferentialAction.{ReferentialAction}
use Rattle.hs_ast.specs.declared.definition.Storage.{Storage}
use Rattle.hs_ast.specs.declared.definition.TableConstraint.{TableConstraint}
use Rattle.hs_ast.specs.declared.definition.TableElement.{TableElement}
use Rattle.hs_ast.specs.declared.expression.CaseArm.{CaseArm}
use Rattle.hs_ast.specs.declared.expression.DateField.{DateField}
use Rattle.hs_ast.specs.declared.expression.Expression.{Expression}
use Rattle.hs_ast.specs.declared.expression.TrimForm.{TrimForm}
use Rattle.hs_ast.specs.declared.query.FromItem.{FromItem, roll-FromItem}
use Rattle.hs_ast.specs.declared.query.Join.{Join}
use Rattle.hs_ast.specs.declared.query.Limit.{Limit}
use Rattle.hs_ast.specs.declared.query.QueryBody.{QueryBody}
use Rattle.hs_ast.specs.declared.query.SelectItem.{SelectItem}
use Rattle.hs_ast.specs.declared.query.SortKey.{SortKey}
use Rattle.hs_ast.specs.declared.query.TableReference.{TableReference}
use Rattle.hs_ast.specs.declared.query.ValuesRow.{ValuesRow}
use Rattle.hs_ast.specs.declared.session.Modes.{Modes}
use Rattle.hs_ast.specs.declared.statement.Stmt.{Stmt}
use Rattle.hs_ast.specs.declared.word.Identifier.{Identifier}
use Rattle.hs_builder.specs.Changes.{expressions_in, rows_in, row_of}
use Rattle.hs_builder.specs.Expressions.{query_of}
use Rattle.hs_builder.specs.declared.part.Built.{Built}
use Rattle.hs_builder.specs.declared.part.BuiltBody.{BuiltBody}
use Rattle.hs_builder.specs.declared.part.BuiltFrom.{BuiltFrom}
use Rattle.hs_builder.specs.declared.part.BuiltList.{BuiltList}
use Rattle.hs_builder.specs.declared.part.BuiltOptional.{BuiltOptional}
use Rattle.hs_builder.specs.declared.part.BuiltQuery.{BuiltQuery}
use Rattle.hs_builder.specs.declared.part.BuiltTable.{BuiltTable}
use Rattle.hs_builder.specs.declared.part.Parts.{Parts}
use Rattle.hs_builder.specs.declared.part.PlacedLiteral.{PlacedLiteral}
use Rattle.hs_builder.specs.declared.part.PlacedNumber.{PlacedNumber}
use Rattle.hs_builder.specs.declared.part.PlacedText.{PlacedText}
use Rattle.hs_lexer.specs.declared.token.Token.{Token}
use Rattle.hs_syntax.specs.Literal.{Production}
use Rattle.hs_syntax.specs.Names as class
use Rattle.hs_spelling.specs.Expressions as X
use Rattle.hs_spelling.specs.Literals as L
use Rattle.hs_spelling.specs.Statements as Z
use Rattle.hs_spelling.specs.Tokens as T
use Rattle.hs_spelling.specs.Tokens.{start_of}
use Rattle.hs_spelling.proofs.Meanings.{with_place, with_name, with_names, with_alias, with_flag, with_number, with_text, with_literal, with_type, with_e, with_list, with_case, with_form, with_field, with_count, with_optional, with_select, with_table, with_from, with_rows, with_body, with_query, with_target, with_tuple, with_tuples, with_update, with_locks, with_definition, with_column, with_header, with_key, with_action, with_constraint, with_modes, with_statement, ordered_by, selected, IsBuilt, IsBody, Ordering, IsSet, Grew}
use Rattle.hs_spelling.proofs.Promises.{Claim, Keeps}

pub data Rule : Type 0 where
  of_start : Rule
  of_semicolon : Rule
  of_work : Rule
  of_outer : Rule
  of_as : Rule
  of_statement : Rule
  of_rollback : Rule
  of_start_modes : Rule
  of_modes : Rule
  of_modes_more : Rule
  of_mode : Rule
  of_access : Rule
  of_level : Rule
  of_committed : Rule
  of_name : Rule
  of_names : Rule
  of_names_more : Rule
  of_number : Rule
  of_text : Rule
  of_literal : Rule
  of_query : Rule
  of_ordering : Rule
  of_keys : Rule
  of_keys_more : Rule
  of_key : Rule
  of_direction : Rule
  of_limiting : Rule
  of_limit : Rule
  of_offset : Rule
  of_ordered : Rule
  of_body : Rule
  of_term : Rule
  of_core : Rule
  of_body_more : Rule
  of_union : Rule
  of_term_more : Rule
  of_select : Rule
  of_distinct : Rule
  of_items : Rule
  of_items_more : Rule
  of_item : Rule
  of_froms : Rule
  of_froms_more : Rule
  of_from : Rule
  of_joins : Rule
  of_table : Rule
  of_where : Rule
  of_update_where : Rule
  of_delete_where : Rule
  of_having : Rule
  of_else : Rule
  of_group : Rule
  of_group_more : Rule
  of_es : Rule
  of_es_more : Rule
  of_rows : Rule
  of_rows_more : Rule
  of_row : Rule
  of_alias : Rule
  of_insert : Rule
  of_source : Rule
  of_contents : Rule
  of_tuples : Rule
  of_tuples_more : Rule
  of_tuple : Rule
  of_values_more : Rule
  of_tuple_value : Rule
  of_inserted_query : Rule
  of_query_tail : Rule
  of_rows_of_values : Rule
  of_rows_of_values_more : Rule
  of_row_of_values : Rule
  of_row_of_values_more : Rule
  of_behind_rows : Rule
  of_update : Rule
  of_pairs_more : Rule
  of_pair : Rule
  of_value : Rule
  of_delete : Rule
  of_lock : Rule
  of_claims_more : Rule
  of_claim : Rule
  of_claimed : Rule
  of_create : Rule
  of_created : Rule
  of_table_definition : Rule
  of_elements_more : Rule
  of_element : Rule
  of_column : Rule
  of_default : Rule
  of_signed_literal : Rule
  of_column_constraints : Rule
  of_column_rule : Rule
  of_referenced_name : Rule
  of_referenced_names : Rule
  of_table_constraint : Rule
  of_table_rule : Rule
  of_actions : Rule
  of_acting : Rule
  of_action : Rule
  of_set_to : Rule
  of_type : Rule
  of_decimal : Rule
  of_alter : Rule
  of_altered : Rule
  of_added : Rule
  of_drop : Rule
  of_dropped : Rule
  of_set : Rule
  of_setting : Rule
  of_database_setting : Rule
  of_control : Rule
  of_default_level : Rule
  of_default_committed : Rule
  of_truth : Rule
  of_write_delay : Rule
  of_e : Rule
  of_or_more : Rule
  of_conjunction : Rule
  of_and_more : Rule
  of_negation : Rule
  of_compared : Rule
  of_comparison : Rule
  of_is : Rule
  of_negated : Rule
  of_in : Rule
  of_escape : Rule
  of_sum : Rule
  of_sum_more : Rule
  of_addition : Rule
  of_product : Rule
  of_product_more : Rule
  of_multiplication : Rule
  of_unary : Rule
  of_sign : Rule
  of_primary : Rule
  of_intervals : Rule
  of_interval : Rule
  of_plus_unit : Rule
  of_minus_unit : Rule
  of_simple : Rule
  of_qualified : Rule
  of_arms : Rule
  of_for : Rule
  of_trim : Rule
  of_trim_side : Rule
  of_trim_tail : Rule
  of_field : Rule
  of_count : Rule
  of_counted : Rule
  of_none : Rule

abbrev pub Means : List ℕ → Rule → Token → List Token → Parts → Claim → Type 0
Means text of_start last rest p K = (x : Stmt) (taken : Token) (r : List Token) → ((a : List Token) × Z.SpellsStatement text x rest a × T.Maybe text class.semicolon_mark a r) → K taken r (with_statement x p)
Means text of_semicolon last rest p K = (taken : Token) (r : List Token) → T.Maybe text class.semicolon_mark rest r → K taken r (p)
Means text of_work last rest p K = (taken : Token) (r : List Token) → T.Maybe text class.WORK rest r → K taken r (p)
Means text of_outer last rest p K = (taken : Token) (r : List Token) → T.Maybe text class.OUTER rest r → K taken r (p)
Means text of_as last rest p K = (taken : Token) (r : List Token) → T.Maybe text class.AS rest r → K taken r (p)
Means text of_statement last rest p K = (x : Stmt) (taken : Token) (r : List Token) → Z.SpellsStatement text x rest r → K taken r (with_statement x p)
Means text of_rollback last rest p K = (x : Stmt) (taken : Token) (r : List Token) → ((a : List Token) → T.Word text class.ROLLBACK a rest → Z.SpellsStatement text x a r) → K taken r (with_statement x p)
Means text of_start_modes last rest p K = (q : Parts) × (p ≡ with_modes Z.no_modes q) × ((n : Modes) (taken : Token) (r : List Token) → Z.SpellsStart text n rest r → K taken r (with_modes n q))
Means text of_modes last rest p K = (m : Modes) (taken : Token) (r : List Token) → Z.SpellsModes text m rest r → K taken r (with_modes m p)
Means text of_modes_more last rest p K = (m : Modes) × (q : Parts) × (p ≡ with_modes m q) × (from : List Token) × (Z.SpellsModes text m from rest) × ((n : Modes) (taken : Token) (r : List Token) → Z.SpellsModes text n from r → K taken r (with_modes n q))
Means text of_mode last rest p K = (m : Modes) × (q : Parts) × (p ≡ with_modes m q) × ((n : Modes) (taken : Token) (r : List Token) → Z.SpellsMode text m n rest r → K taken r (with_modes n q))
Means text of_access last rest p K = (m : Modes) × (q : Parts) × (p ≡ with_modes m q) × (from : List Token) × (T.Word text class.READ from rest) × ((n : Modes) (taken : Token) (r : List Token) → Z.SpellsMode text m n from r → K taken r (with_modes n q))
Means text of_level last rest p K = (m : Modes) × (q : Parts) × (p ≡ with_modes m q) × (from : List Token) × ((a : List Token) × T.Word text class.ISOLATION from a × T.Word text class.LEVEL a rest) × ((n : Modes) (taken : Token) (r : List Token) → Z.SpellsMode text m n from r → K taken r (with_modes n q))
Means text of_committed last rest p K = (m : Modes) × (q : Parts) × (p ≡ with_modes m q) × (from : List Token) × ((a b : List Token) × T.Word text class.ISOLATION from a × T.Word text class.LEVEL a b × T.Word text class.READ b rest) × ((n : Modes) (taken : Token) (r : List Token) → Z.SpellsMode text m n from r → K taken r (with_modes n q))
Means text of_name last rest p K = (n : Identifier) (taken : Token) (r : List Token) → T.Name text n rest r → K taken r (with_name n p)
Means text of_names last rest p K = (ns : List Identifier) (taken : Token) (r : List Token) → L.SpellsNames text ns rest r → K taken r (with_names ns p)
Means text of_names_more last rest p K = (ns : List Identifier) × (q : Parts) × (p ≡ with_names ns q) × (from : List Token) × (L.SpellsNames text ns from rest) × ((ms : List Identifier) (taken : Token) (r : List Token) → L.SpellsNames text ms from r → K taken r (with_names ms q))
Means text of_number last rest p K = (n : PlacedNumber) (taken : Token) (r : List Token) → (T.Numeral text n.number rest r × (n.at ≡ start_of rest)) → K taken r (with_number n p)
Means text of_text last rest p K = (t : PlacedText) (taken : Token) (r : List Token) → (T.Told text t.text rest r × (t.at ≡ start_of rest)) → K taken r (with_text t p)
Means text of_literal last rest p K = (x : PlacedLiteral) (taken : Token) (r : List Token) → (L.SpellsLiteral text x.literal rest r × (x.at ≡ start_of rest)) → K taken r (with_literal x p)
Means text of_query last rest p K = (x : BuiltQuery) (taken : Token) (r : List Token) → X.SpellsQuery text (query_of x) rest r → K taken r (with_query x p)
Means text of_ordering last rest p K = (b : QueryBody) × (at : ℕ) × (d : ℕ) × (q : Parts) × (p ≡ with_query (ordered_by b [] None d at) q) × ((ks : List SortKey) (e : ℕ) (taken : Token) (r : List Token) → Ordering text ks rest r → K taken r (with_query (ordered_by b ks None e at) q))
Means text of_keys last rest p K = (b : QueryBody) × (l : Option Limit) × (at : ℕ) × (d : ℕ) × (q : Parts) × (p ≡ with_query (ordered_by b [] l d at) q) × ((ks : List SortKey) (e : ℕ) (taken : Token) (r : List Token) → X.SpellsKeys text ks rest r → K taken r (with_query (ordered_by b ks l e at) q))
Means text of_keys_more last rest p K = (b : QueryBody) × (ks : List SortKey) × (l : Option Limit) × (at : ℕ) × (d : ℕ) × (q : Parts) × (p ≡ with_query (ordered_by b ks l d at) q) × (from : List Token) × (X.SpellsKeys text ks from rest) × ((js : List SortKey) (e : ℕ) (taken : Token) (r : List Token) → X.SpellsKeys text js from r → K taken r (with_query (ordered_by b js l e at) q))
Means text of_key last rest p K = (b : QueryBody) × (ks : List SortKey) × (l : Option Limit) × (at : ℕ) × (d : ℕ) × (q : Parts) × (p ≡ with_query (ordered_by b ks l d at) q) × ((k : SortKey) (e : ℕ) (taken : Token) (r : List Token) → X.SpellsKey text k rest r → K taken r (with_query (ordered_by b (ks ++ k ∷ []) l e at) q))
Means text of_direction last rest p K = (a : Built) × (b : QueryBody) × (ks : List SortKey) × (l : Option Limit) × (at : ℕ) × (d : ℕ) × (q : Parts) × (p ≡ with_e a (with_query (ordered_by b ks l d at) q)) × (from : List Token) × (IsBuilt text X.disjunction a from rest) × ((k : SortKey) (e : ℕ) (taken : Token) (r : List Token) → X.SpellsKey text k from r → K taken r (with_query (ordered_by b (ks ++ k ∷ []) l e at) q))
Means text of_limiting last rest p K = (b : QueryBody) × (ks : List SortKey) × (at : ℕ) × (d : ℕ) × (q : Parts) × (p ≡ with_query (ordered_by b ks None d at) q) × ((l : Option Limit) (taken : Token) (r : List Token) → X.SpellsLimiting text l rest r → K taken r (with_query (ordered_by b ks l d at) q))
Means text of_limit last rest p K = (b : QueryBody) × (ks : List SortKey) × (at : ℕ) × (d : ℕ) × (q : Parts) × (p ≡ with_query (ordered_by b ks None d at) q) × ((l : Limit) (taken : Token) (r : List Token) → X.SpellsLimit text l rest r → K taken r (with_query (ordered_by b ks (Some l) d at) q))
Means text of_offset last rest p K = (b : QueryBody) × (ks : List SortKey) × (c : ℕ) × (at : ℕ) × (d : ℕ) × (q : Parts) × (p ≡ with_query (ordered_by b ks (Some (record { count = c; offset = None })) d at) q) × ((o : Option ℕ) (taken : Token) (r : List Token) → X.SpellsOffset text o rest r → K taken r (with_query (ordered_by b ks (Some (record { count = c; offset = o })) d at) q))
Means text of_ordered last rest p K = (b : QueryBody) × (at : ℕ) × (d : ℕ) × (q : Parts) × (p ≡ with_query (ordered_by b [] None d at) q) × ((ks : List SortKey) (l : Option Limit) (e : ℕ) (taken : Token) (r : List Token) → X.SpellsEnd text ks l rest r → K taken r (with_query (ordered_by b ks l e at) q))
Means text of_body last rest p K = (b : BuiltBody) (taken : Token) (r : List Token) → IsBody text X.any b rest r → K taken r (with_body b p)
Means text of_term last rest p K = (b : BuiltBody) (taken : Token) (r : List Token) → IsBody text X.term b rest r → K taken r (with_body b p)
Means text of_core last rest p K = (b : BuiltBody) (taken : Token) (r : List Token) → IsBody text X.core b rest r → K taken r (with_body b p)
Means text of_body_more last rest p K = (a : BuiltBody) × (q : Parts) × (p ≡ with_body a q) × (from : List Token) × (IsBody text X.any a from rest) × ((b : BuiltBody) (taken : Token) (r : List Token) → (IsBody text X.any b from r × Grew a.tree b.tree) → K taken r (with_body b q))
Means text of_union last rest p K = (a : BuiltBody) × (q : Parts) × (p ≡ with_body a q) × (from : List Token) × ((c : List Token) × IsBody text X.any a from c × T.Word text class.UNION c rest) × ((b : BuiltBody) (taken : Token) (r : List Token) → (IsBody text X.any b from r × IsSet b.tree) → K taken r (with_body b q))
Means text of_term_more last rest p K = (a : BuiltBody) × (q : Parts) × (p ≡ with_body a q) × (from : List Token) × (IsBody text X.term a from rest) × ((b : BuiltBody) (taken : Token) (r : List Token) → (IsBody text X.term b from r × Grew a.tree b.tree) → K taken r (with_body b q))
Means text of_select last rest p K = (at : ℕ) × (q : Parts) × (p ≡ with_place at q) × (from : List Token) × (T.Word text class.SELECT from rest × (at ≡ start_of from)) × ((b : BuiltBody) (taken : Token) (r : List Token) → IsBody text X.core b from r → K taken r (with_body b q))
Means text of_distinct last rest p K = (f : Bool) (taken : Token) (r : List Token) → T.Flag text class.DISTINCT f rest r → K taken r (with_flag f p)
Means text of_items last rest p K = (f : Bool) × (d : ℕ) × (at : ℕ) × (q : Parts) × (p ≡ with_select (selected f [] [] [] d at) q) × ((is : List SelectItem) (e : ℕ) (taken : Token) (r : List Token) → X.SpellsItems text is rest r → K taken r (with_select (selected f is [] [] e at) q))
Means text of_items_more last rest p K = (f : Bool) × (is : List SelectItem) × (fs : List FromItem) × (gs : List Expression) × (d : ℕ) × (at : ℕ) × (q : Parts) × (p ≡ with_select (selected f is fs gs d at) q) × (from : List Token) × (X.SpellsItemList text is from rest) × ((js : List SelectItem) (e : ℕ) (taken : Token) (r : List Token) → X.SpellsItemList text js from r → K taken r (with_select (selected f js fs gs e at) q))
Means text of_item last rest p K = (f : Bool) × (is : List SelectItem) × (fs : List FromItem) × (gs : List Expression) × (d : ℕ) × (at : ℕ) × (q : Parts) × (p ≡ with_select (selected f is fs gs d at) q) × ((i : SelectItem) (e : ℕ) (taken : Token) (r : List Token) → X.SpellsItem text i rest r → K taken r (with_select (selected f (is ++ i ∷ []) fs gs e at) q))
Means text of_froms last rest p K = (f : Bool) × (is : List SelectItem) × (gs : List Expression) × (d : ℕ) × (at : ℕ) × (q : Parts) × (p ≡ with_select (selected f is [] gs d at) q) × ((fs : List FromItem) (e : ℕ) (taken : Token) (r : List Token) → X.SpellsFroms text fs rest r → K taken r (with_select (selected f is fs gs e at) q))
Means text of_froms_more last rest p K = (f : Bool) × (is : List SelectItem) × (fs : List FromItem) × (gs : List Expression) × (d : ℕ) × (at : ℕ) × (q : Parts) × (p ≡ with_select (selected f is fs gs d at) q) × (from : List Token) × (X.SpellsFroms text fs from rest) × ((hs : List FromItem) (e : ℕ) (taken : Token) (r : List Token) → X.SpellsFroms text hs from r → K taken r (with_select (selected f is hs gs e at) q))
Means text of_from last rest p K = (f : Bool) × (is : List SelectItem) × (fs : List FromItem) × (gs : List Expression) × (d : ℕ) × (at : ℕ) × (q : Parts) × (p ≡ with_select (selected f is fs gs d at) q) × ((t : TableReference) (js : List Join) (e : ℕ) (taken : Token) (r : List Token) → X.SpellsFrom text t js rest r → K taken r (with_select (selected f is (fs ++ roll-FromItem (record { table = t; joins = js }) ∷ []) gs e at) q))
Means text of_joins last rest p K = (f : BuiltFrom) × (q : Parts) × (p ≡ with_from f q) × (from : List Token) × (X.SpellsFrom text f.table f.joins from rest) × ((g : BuiltFrom) (taken : Token) (r : List Token) → X.SpellsFrom text g.table g.joins from r → K taken r (with_from g q))
Means text of_table last rest p K = (t : BuiltTable) (taken : Token) (r : List Token) → X.SpellsTable text t.table rest r → K taken r (with_table t p)
Means text of_where last rest p K = (o : BuiltOptional) (taken : Token) (r : List Token) → X.SpellsBehind text class.WHERE o.tree rest r → K taken r (with_optional o p)
Means text of_update_where last rest p K = (o : BuiltOptional) (taken : Token) (r : List Token) → X.SpellsBehind text class.WHERE o.tree rest r → K taken r (with_optional o p)
Means text of_delete_where last rest p K = (o : BuiltOptional) (taken : Token) (r : List Token) → X.SpellsBehind text class.WHERE o.tree rest r → K taken r (with_optional o p)
Means text of_having last rest p K = (o : BuiltOptional) (taken : Token) (r : List Token) → X.SpellsBehind text class.HAVING o.tree rest r → K taken r (with_optional o p)
Means text of_else last rest p K = (o : BuiltOptional) (taken : Token) (r : List Token) → X.SpellsBehind text class.ELSE o.tree rest r → K taken r (with_optional o p)
Means text of_group last rest p K = (f : Bool) × (is : List SelectItem) × (fs : List FromItem) × (d : ℕ) × (at : ℕ) × (q : Parts) × (p ≡ with_select (selected f is fs [] d at) q) × ((gs : List Expression) (e : ℕ) (taken : Token) (r : List Token) → X.SpellsGroup text gs rest r → K taken r (with_select (selected f is fs gs e at) q))
Means text of_group_more last rest p K = (f : Bool) × (is : List SelectItem) × (fs : List FromItem) × (gs : List Expression) × (d : ℕ) × (at : ℕ) × (q : Parts) × (p ≡ with_select (selected f is fs gs d at) q) × (from : List Token) × (X.SpellsExpressions text gs from rest) × ((hs : List Expression) (e : ℕ) (taken : Token) (r : List Token) → X.SpellsExpressions text hs from r → K taken r (with_select (selected f is fs hs e at) q))
Means text of_es last rest p K = (x : BuiltList) (taken : Token) (r : List Token) → X.SpellsExpressions text x.trees rest r → K taken r (with_list x p)
Means text of_es_more last rest p K = (x : BuiltList) × (q : Parts) × (p ≡ with_list x q) × (from : List Token) × (X.SpellsExpressions text x.trees from rest) × ((y : BuiltList) (taken : Token) (r : List Token) → X.SpellsExpressions text y.trees from r → K taken r (with_list y q))
Means text of_rows last rest p K = (d : ℕ) × (at : ℕ) × (q : Parts) × (p ≡ with_rows (record { rows = []; depth = d; at = at }) q) × ((rs : List ValuesRow) (e : ℕ) (taken : Token) (r : List Token) → X.SpellsRows text rs rest r → K taken r (with_rows (record { rows = rs; depth = e; at = at }) q))
Means text of_rows_more last rest p K = (rs : List ValuesRow) × (d : ℕ) × (at : ℕ) × (q : Parts) × (p ≡ with_rows (record { rows = rs; depth = d; at = at }) q) × (from : List Token) × (X.SpellsRows text rs from rest) × ((ss : List ValuesRow) (e : ℕ) (taken : Token) (r : List Token) → X.SpellsRows text ss from r → K taken r (with_rows (record { rows = ss; depth = e; at = at }) q))
Means text of_row last rest p K = (rs : List ValuesRow) × (d : ℕ) × (at : ℕ) × (q : Parts) × (p ≡ with_rows (record { rows = rs; depth = d; at = at }) q) × ((x : ValuesRow) (e : ℕ) (taken : Token) (r : List Token) → X.SpellsRow text x rest r → K taken r (with_rows (record { rows = rs ++ x ∷ []; depth = e; at = at }) q))
Means text of_alias last rest p K = (a : Option Identifier) (taken : Token) (r : List Token) → L.SpellsAlias text a rest r → K taken r (with_alias a p)
Means text of_insert last rest p K = (x : Stmt) (taken : Token) (r : List Token) → Z.SpellsStatement text x rest r → K taken r (with_statement x p)
Means text of_source last rest p K = (t : Identifier) × (q : Parts) × (p ≡ with_target (record { table = t; columns = [] }) q) × (from : List Token) × ((a b : List Token) × T.Word text class.INSERT from a × T.Word text class.INTO a b × T.Name text t b rest) × ((x : Stmt) (taken : Token) (r : List Token) → Z.SpellsStatement text x from r → K taken r (with_statement x q))
Means text of_contents last rest p K = (t : Identifier) × (cs : List Identifier) × (q : Parts) × (p ≡ with_target (record { table = t; columns = cs }) q) × (from : List Token) × ((a b c : List Token) × T.Word text class.INSERT from a × T.Word text class.INTO a b × T.Name text t b c × Z.SpellsColumns text cs c rest) × ((x : Stmt) (taken : Token) (r : List Token) → Z.SpellsStatement text x from r → K taken r (with_statement x q))
Means text of_tuples last rest p K = (d : ℕ) × (at : ℕ) × (q : Parts) × (p ≡ with_tuples (record { tuples = []; depth = d; at = at }) q) × ((ts : List (List NewValue)) (e : ℕ) (taken : Token) (r : List Token) → Z.SpellsTuples text ts rest r → K taken r (with_tuples (record { tuples = ts; depth = e; at = at }) q))
Means text of_tuples_more last rest p K = (ts : List (List NewValue)) × (d : ℕ) × (at : ℕ) × (q : Parts) × (p ≡ with_tuples (record { tuples = ts; depth = d; at = at }) q) × (from : List Token) × (Z.SpellsTuples text ts from rest) × ((us : List (List NewValue)) (e : ℕ) (taken : Token) (r : List Token) → Z.SpellsTuples text us from r → K taken r (with_tuples (record { tuples = us; depth = e; at = at }) q))
Means text of_tuple last rest p K = (ts : List (List NewValue)) × (d : ℕ) × (at : ℕ) × (q : Parts) × (p ≡ with_tuples (record { tuples = ts; depth = d; at = at }) q) × ((t : List NewValue) (e : ℕ) (taken : Token) (r : List Token) → Z.SpellsTuple text t rest r → K taken r (with_tuples (record { tuples = ts ++ t ∷ []; depth = e; at = at }) q))
Means text of_values_more last rest p K = (vs : List NewValue) × (d : ℕ) × (q : Parts) × (p ≡ with_tuple (record { values = vs; depth = d }) q) × (from : List Token) × (Z.SpellsValues text vs from rest) × ((us : List NewValue) (e : ℕ) (taken : Token) (r : List Token) → Z.SpellsValues text us from r → K taken r (with_tuple (record { values = us; depth = e }) q))
Means text of_tuple_value last rest p K = (vs : List NewValue) × (d : ℕ) × (q : Parts) × (p ≡ with_tuple (record { values = vs; depth = d }) q) × ((v : NewValue) (e : ℕ) (taken : Token) (r : List Token) → Z.SpellsValue text v rest r → K taken r (with_tuple (record { values = vs ++ v ∷ []; depth = e }) q))
Means text of_inserted_query last rest p K = (x : BuiltQuery) (taken : Token) (r : List Token) → Z.SpellsSource text (source.Query (query_of x)) rest r → K taken r (with_query x p)
Means text of_query_tail last rest p K = (a : BuiltBody) × (q : Parts) × (p ≡ with_body a q) × (from : List Token) × (IsBody text X.term a from rest × Z.IsNoTuples text a.tree from) × ((x : BuiltQuery) (taken : Token) (r : List Token) → Z.SpellsSource text (source.Query (query_of x)) from r → K taken r (with_query x q))
Means text of_rows_of_values last rest p K = (d : ℕ) × (at : ℕ) × (q : Parts) × (p ≡ with_tuples (record { tuples = []; depth = d; at = at }) q) × ((ts : List (List NewValue)) (e : ℕ) (taken : Token) (r : List Token) → X.SpellsRows text (rows_in ts) rest r → K taken r (with_tuples (record { tuples = ts; depth = e; at = at }) q))
Means text of_rows_of_values_more last rest p K = (ts : List (List NewValue)) × (d : ℕ) × (at : ℕ) × (q : Parts) × (p ≡ with_tuples (record { tuples = ts; depth = d; at = at }) q) × (from : List Token) × (X.SpellsRows text (rows_in ts) from rest) × ((us : List (List NewValue)) (e : ℕ) (taken : Token) (r : List Token) → X.SpellsRows text (rows_in us) from r → K taken r (with_tuples (record { tuples = us; depth = e; at = at }) q))
Means text of_row_of_values last rest p K = (ts : List (List NewValue)) × (d : ℕ) × (at : ℕ) × (q : Parts) × (p ≡ with_tuples (record { tuples = ts; depth = d; at = at }) q) × ((t : List NewValue) (e : ℕ) (taken : Token) (r : List Token) → X.SpellsRow text (row_of t) rest r → K taken r (with_tuples (record { tuples = ts ++ t ∷ []; depth = e; at = at }) q))
Means text of_row_of_values_more last rest p K = (vs : List NewValue) × (d : ℕ) × (q : Parts) × (p ≡ with_tuple (record { values = vs; depth = d }) q) × (from : List Token) × (X.SpellsExpressions text (expressions_in vs) from rest) × ((us : List NewValue) (e : ℕ) (taken : Token) (r : List Token) → X.SpellsExpressions text (expressions_in us) from r → K taken r (with_tuple (record { values = us; depth = e }) q))
Means text of_behind_rows last rest p K = (a : BuiltBody) × (q : Parts) × (p ≡ with_body a q) × (from : List Token) × (IsBody text X.core a from rest) × ((x : BuiltQuery) (taken : Token) (r : List Token) → Z.SpellsSource text (source.Query (query_of x)) from r → K taken r (with_query x q))
Means text of_update last rest p K = (x : Stmt) (taken : Token) (r : List Token) → Z.SpellsStatement text x rest r → K taken r (with_statement x p)
Means text of_pairs_more last rest p K = (t : Identifier) × (a : Option Identifier) × (xs : List Assignment) × (o : Option Expression) × (q : Parts) × (p ≡ with_update (record { table = t; alias = a; assignments = xs; filter = o }) q) × (from : List Token) × (Z.SpellsAssignments text xs from rest) × ((ys : List Assignment) (taken : Token) (r : List Token) → Z.SpellsAssignments text ys from r → K taken r (with_update (record { table = t; alias = a; assignments = ys; filter = o }) q))
Means text of_pair last rest p K = (t : Identifier) × (a : Option Identifier) × (xs : List Assignment) × (o : Option Expression) × (q : Parts) × (p ≡ with_update (record { table = t; alias = a; assignments = xs; filter = o }) q) × ((y : Assignment) (taken : Token) (r : List Token) → Z.SpellsAssignment text y rest r → K taken r (with_update (record { table = t; alias = a; assignments = xs ++ y ∷ []; filter = o }) q))
Means text of_value last rest p K = (n : Identifier) × (t : Identifier) × (a : Option Identifier) × (xs : List Assignment) × (o : Option Expression) × (q : Parts) × (p ≡ with_name n (with_update (record { table = t; alias = a; assignments = xs; filter = o }) q)) × (from : List Token) × ((c : List Token) × T.Name text n from c × T.Word text class.equal c rest) × ((y : Assignment) (taken : Token) (r : List Token) → Z.SpellsAssignment text y from r → K taken r (with_update (record { table = t; alias = a; assignments = xs ++ y ∷ []; filter = o }) q))
Means text of_delete last rest p K = (x : Stmt) (taken : Token) (r : List Token) → Z.SpellsStatement text x rest r → K taken r (with_statement x p)
Means text of_lock last rest p K = (x : Stmt) (taken : Token) (r : List Token) → Z.SpellsStatement text x rest r → K taken r (with_statement x p)
Means text of_claims_more last rest p K = (xs : List LockedTable) × (q : Parts) × (p ≡ with_locks xs q) × (from : List Token) × (Z.SpellsClaims text xs from rest) × ((ys : List LockedTable) (taken : Token) (r : List Token) → Z.SpellsClaims text ys from r → K taken r (with_locks ys q))
Means text of_claim last rest p K = (xs : List LockedTable) × (q : Parts) × (p ≡ with_locks xs q) × ((y : LockedTable) (taken : Token) (r : List Token) → Z.SpellsClaim text y rest r → K taken r (with_locks (xs ++ y ∷ []) q))
Means text of_claimed last rest p K = (n : Identifier) × (xs : List LockedTable) × (q : Parts) × (p ≡ with_name n (with_locks xs q)) × (from : List Token) × (T.Name text n from rest) × ((y : LockedTable) (taken : Token) (r : List Token) → Z.SpellsClaim text y from r → K taken r (with_locks (xs ++ y ∷ []) q))
Means text of_create last rest p K = (x : Stmt) (taken : Token) (r : List Token) → Z.SpellsStatement text x rest r → K taken r (with_statement x p)
Means text of_created last rest p K = (x : Stmt) (taken : Token) (r : List Token) → ((a : List Token) → T.Word text class.CREATE a rest → Z.SpellsStatement text x a r) → K taken r (with_statement x p)
Means text of_table_definition last rest p K = (x : Stmt) (taken : Token) (r : List Token) → ((a : List Token) → (b : List Token) × (c : List Token) × T.Word text class.CREATE a b × T.Maybe text class.MEMORY b c × T.Word text class.TABLE c rest → Z.SpellsStatement text x a r) → K taken r (with_statement x p)
Means text of_elements_more last rest p K = (g : Storage) × (n : Identifier) × (xs : List TableElement) × (q : Parts) × (p ≡ with_definition (record { storage = g; name = n; elements = xs }) q) × (from : List Token) × (Z.SpellsElements text xs from rest) × ((ys : List TableElement) (taken : Token) (r : List Token) → Z.SpellsElements text ys from r → K taken r (with_definition (record { storage = g; name = n; elements = ys }) q))
Means text of_element last rest p K = (g : Storage) × (n : Identifier) × (xs : List TableElement) × (q : Parts) × (p ≡ with_definition (record { storage = g; name = n; elements = xs }) q) × ((y : TableElement) (taken : Token) (r : List Token) → Z.SpellsElement text y rest r → K taken r (with_definition (record { storage = g; name = n; elements = xs ++ y ∷ [] }) q))
Means text of_column last rest p K = (c : ColumnDefinition) (taken : Token) (r : List Token) → Z.SpellsColumn text c rest r → K taken r (with_column c p)
Means text of_default last rest p K = (n : Identifier) × (t : DataType) × (cs : List ColumnConstraint) × (q : Parts) × (p ≡ with_column (record { name = n; data_type = t; default = None; constraints = cs }) q) × ((d : Option DefaultValue) (taken : Token) (r : List Token) → Z.SpellsDefault text d rest r → K taken r (with_column (record { name = n; data_type = t; default = d; constraints = cs }) q))
Means text of_signed_literal last rest p K = (x : PlacedLiteral) (taken : Token) (r : List Token) → (L.SpellsSigned text x.literal rest r × (x.at ≡ start_of rest)) → K taken r (with_literal x p)
Means text of_column_constraints last rest p K = (n : Identifier) × (t : DataType) × (d : Option DefaultValue) × (cs : List ColumnConstraint) × (q : Parts) × (p ≡ with_column (record { name = n; data_type = t; default = d; constraints = cs }) q) × (from : List Token) × (Z.SpellsColumnConstraints text cs from rest) × ((ds : List ColumnConstraint) (taken : Token) (r : List Token) → Z.SpellsColumnConstraints text ds from r → K taken r (with_column (record { name = n; data_type = t; default = d; constraints = ds }) q))
Means text of_column_rule last rest p K = (at : ℕ) × (o : Option Identifier) × (n : Identifier) × (t : DataType) × (d : Option DefaultValue) × (cs : List ColumnConstraint) × (q : Parts) × (p ≡ with_header (record { at = at; name = o }) (with_column (record { name = n; data_type = t; default = d; constraints = cs }) q)) × (from : List Token) × (Z.SpellsHeader text o from rest × (at ≡ start_of from)) × ((c : ColumnConstraint) (taken : Token) (r : List Token) → Z.SpellsColumnConstraint text c from r → K taken r (with_column (record { name = n; data_type = t; default = d; constraints = cs ++ c ∷ [] }) q))
Means text of_referenced_name last rest p K = (n : Identifier) × (x : ReferentialAction) × (y : ReferentialAction) × (q : Parts) × (p ≡ with_key (record { parent = n; parent_columns = []; on_delete = x; on_update = y }) q) × ((cs : List Identifier) (taken : Token) (r : List Token) → Z.SpellsParent text cs rest r → K taken r (with_key (record { parent = n; parent_columns = cs; on_delete = x; on_update = y }) q))
Means text of_referenced_names last rest p K = (n : Identifier) × (x : ReferentialAction) × (y : ReferentialAction) × (q : Parts) × (p ≡ with_key (record { parent = n; parent_columns = []; on_delete = x; on_update = y }) q) × ((cs : List Identifier) (taken : Token) (r : List Token) → Z.SpellsColumns text cs rest r → K taken r (with_key (record { parent = n; parent_columns = cs; on_delete = x; on_update = y }) q))
Means text of_table_constraint last rest p K = (c : TableConstraint) (taken : Token) (r : List Token) → Z.SpellsTableConstraint text c rest r → K taken r (with_constraint c p)
Means text of_table_rule last rest p K = (at : ℕ) × (o : Option Identifier) × (q : Parts) × (p ≡ with_header (record { at = at; name = o }) q) × (from : List Token) × (Z.SpellsHeader text o from rest × (at ≡ start_of from)) × ((c : TableConstraint) (taken : Token) (r : List Token) → Z.SpellsTableConstraint text c from r → K taken r (with_constraint c q))
Means text of_actions last rest p K = (x : ForeignKey) × (k : ForeignKey) × (q : Parts) × (p ≡ with_key k q) × (from : List Token) × (Z.SpellsChanges text x k from rest) × ((l : ForeignKey) (taken : Token) (r : List Token) → Z.SpellsChanges text x l from r → K taken r (with_key l q))
Means text of_acting last rest p K = (k : ForeignKey) × (q : Parts) × (p ≡ with_key k q) × (from : List Token) × (T.Word text class.ON from rest) × ((l : ForeignKey) (taken : Token) (r : List Token) → Z.SpellsChange text k l from r → K taken r (with_key l q))
Means text of_action last rest p K = (a : ReferentialAction) (taken : Token) (r : List Token) → Z.SpellsAction text a rest r → K taken r (with_action a p)
Means text of_set_to last rest p K = (x : ReferentialAction) (taken : Token) (r : List Token) → ((a : List Token) → T.Word text class.SET a rest → Z.SpellsAction text x a r) → K taken r (with_action x p)
Means text of_type last rest p K = (t : DataType) (taken : Token) (r : List Token) → L.SpellsType text t rest r → K taken r (with_type t p)
Means text of_decimal last rest p K = (t : DataType) (taken : Token) (r : List Token) → ((a : List Token) → L.SpellsDecimal text a rest → L.SpellsType text t a r) → K taken r (with_type t p)
Means text of_alter last rest p K = (x : Stmt) (taken : Token) (r : List Token) → Z.SpellsStatement text x rest r → K taken r (with_statement x p)
Means text of_altered last rest p K = (n : Identifier) × (q : Parts) × (p ≡ with_name n q) × (from : List Token) × ((a b : List Token) × T.Word text class.ALTER from a × T.Word text class.TABLE a b × T.Name text n b rest) × ((x : Stmt) (taken : Token) (r : List Token) → Z.SpellsStatement text x from r → K taken r (with_statement x q))
Means text of_added last rest p K = (n : Identifier) × (q : Parts) × (p ≡ with_name n q) × (from : List Token) × ((a b c : List Token) × T.Word text class.ALTER from a × T.Word text class.TABLE a b × T.Name text n b c × T.Word text class.ADD c rest) × ((x : Stmt) (taken : Token) (r : List Token) → Z.SpellsStatement text x from r → K taken r (with_statement x q))
Means text of_drop last rest p K = (x : Stmt) (taken : Token) (r : List Token) → Z.SpellsStatement text x rest r → K taken r (with_statement x p)
Means text of_dropped last rest p K = (x : Stmt) (taken : Token) (r : List Token) → ((a : List Token) → T.Word text class.DROP a rest → Z.SpellsStatement text x a r) → K taken r (with_statement x p)
Means text of_set last rest p K = (x : Stmt) (taken : Token) (r : List Token) → Z.SpellsStatement text x rest r → K taken r (with_statement x p)
Means text of_setting last rest p K = (x : Stmt) (taken : Token) (r : List Token) → ((a : List Token) → T.Word text class.SET a rest → Z.SpellsStatement text x a r) → K taken r (with_statement x p)
Means text of_database_setting last rest p K = (x : Stmt) (taken : Token) (r : List Token) → ((a b : List Token) → T.Word text class.SET a b → T.Word text class.DATABASE b rest → Z.SpellsStatement text x a r) → K taken r (with_statement x p)
Means text of_control last rest p K = (x : Stmt) (taken : Token) (r : List Token) → ((a b c d : List Token) → T.Word text class.SET a b → T.Word text class.DATABASE b c → T.Word text class.TRANSACTION c d → T.Word text class.CONTROL d rest → Z.SpellsStatement text x a r) → K taken r (with_statement x p)
Means text of_default_level last rest p K = (x : Stmt) (taken : Token) (r : List Token) → ((a b c d e : List Token) → T.Word text class.SET a b → T.Word text class.DATABASE b c → T.Word text class.DEFAULT c d → T.Word text class.ISOLATION d e → T.Word text class.LEVEL e rest → Z.SpellsStatement text x a r) → K taken r (with_statement x p)
Means text of_default_committed last rest p K = (x : Stmt) (taken : Token) (r : List Token) → ((a b c d e f : List Token) → T.Word text class.SET a b → T.Word text class.DATABASE b c → T.Word text class.DEFAULT c d → T.Word text class.ISOLATION d e → T.Word text class.LEVEL e f → T.Word text class.READ f rest → Z.SpellsStatement text x a r) → K taken r (with_statement x p)
Means text of_truth last rest p K = (x : Stmt) (taken : Token) (r : List Token) → ((a b : List Token) → T.Word text class.SET a b → T.Word text class.AUTOCOMMIT b rest → Z.SpellsStatement text x a r) → K taken r (with_statement x p)
Means text of_write_delay last rest p K = (x : Stmt) (taken : Token) (r : List Token) → ((a b c d : List Token) → T.Word text class.SET a b → T.Word text class.FILES b c → T.Word text class.WRITE c d → T.Word text class.DELAY d rest → Z.SpellsStatement text x a r) → K taken r (with_statement x p)
Means text of_e last rest p K = (b : Built) (taken : Token) (r : List Token) → IsBuilt text X.disjunction b rest r → K taken r (with_e b p)
Means text of_or_more last rest p K = (a : Built) × (q : Parts) × (p ≡ with_e a q) × (from : List Token) × (IsBuilt text X.disjunction a from rest) × ((b : Built) (taken : Token) (r : List Token) → IsBuilt text X.disjunction b from r → K taken r (with_e b q))
Means text of_conjunction last rest p K = (b : Built) (taken : Token) (r : List Token) → IsBuilt text X.conjunction b rest r → K taken r (with_e b p)
Means text of_and_more last rest p K = (a : Built) × (q : Parts) × (p ≡ with_e a q) × (from : List Token) × (IsBuilt text X.conjunction a from rest) × ((b : Built) (taken : Token) (r : List Token) → IsBuilt text X.conjunction b from r → K taken r (with_e b q))
Means text of_negation last rest p K = (b : Built) (taken : Token) (r : List Token) → IsBuilt text X.negation b rest r → K taken r (with_e b p)
Means text of_compared last rest p K = (a : Built) × (q : Parts) × (p ≡ with_e a q) × (from : List Token) × (IsBuilt text X.sum a from rest) × ((b : Built) (taken : Token) (r : List Token) → IsBuilt text X.negation b from r → K taken r (with_e b q))
Means text of_comparison last rest p K = (a : Built) × (q : Parts) × (p ≡ with_e a q) × (from : List Token) × (IsBuilt text X.sum a from rest) × ((b : Built) (taken : Token) (r : List Token) → IsBuilt text X.negation b from r → K taken r (with_e b q))
Means text of_is last rest p K = (a : Built) × (q : Parts) × (p ≡ with_e a q) × (from : List Token) × ((c : List Token) × IsBuilt text X.sum a from c × T.Word text class.IS c rest) × ((b : Built) (taken : Token) (r : List Token) → IsBuilt text X.negation b from r → K taken r (with_e b q))
Means text of_negated last rest p K = (f : Bool) × (a : Built) × (q : Parts) × (p ≡ with_flag f (with_e a q)) × (from : List Token) × ((c : List Token) × IsBuilt text X.sum a from c × T.Flag text class.NOT f c rest) × ((b : Built) (taken : Token) (r : List Token) → IsBuilt text X.negation b from r → K taken r (with_e b q))
Means text of_in last rest p K = (f : Bool) × (a : Built) × (q : Parts) × (p ≡ with_flag f (with_e a q)) × (from : List Token) × ((c d e : List Token) × IsBuilt text X.sum a from c × T.Flag text class.NOT f c d × T.Word text class.IN d e × T.Word text class.left_parenthesis e rest) × ((b : Built) (taken : Token) (r : List Token) → IsBuilt text X.negation b from r → K taken r (with_e b q))
Means text of_escape last rest p K = (f : Bool) × (b : Built) × (a : Built) × (q : Parts) × (p ≡ with_flag f (with_e b (with_e a q))) × (from : List Token) × ((c d e : List Token) × IsBuilt text X.sum a from c × T.Flag text class.NOT f c d × T.Word text class.LIKE d e × IsBuilt text X.sum b e rest) × ((y : Built) (taken : Token) (r : List Token) → IsBuilt text X.negation y from r → K taken r (with_e y q))
Means text of_sum last rest p K = (b : Built) (taken : Token) (r : List Token) → IsBuilt text X.sum b rest r → K taken r (with_e b p)
Means text of_sum_more last rest p K = (a : Built) × (q : Parts) × (p ≡ with_e a q) × (from : List Token) × (IsBuilt text X.sum a from rest) × ((b : Built) (taken : Token) (r : List Token) → IsBuilt text X.sum b from r → K taken r (with_e b q))
Means text of_addition last rest p K = (a : Built) × (q : Parts) × (p ≡ with_e a q) × (from : List Token) × (IsBuilt text X.sum a from rest) × ((b : Built) (taken : Token) (r : List Token) → IsBuilt text X.sum b from r → K taken r (with_e b q))
Means text of_product last rest p K = (b : Built) (taken : Token) (r : List Token) → IsBuilt text X.product b rest r → K taken r (with_e b p)
Means text of_product_more last rest p K = (a : Built) × (q : Parts) × (p ≡ with_e a q) × (from : List Token) × (IsBuilt text X.product a from rest) × ((b : Built) (taken : Token) (r : List Token) → IsBuilt text X.product b from r → K taken r (with_e b q))
Means text of_multiplication last rest p K = (a : Built) × (q : Parts) × (p ≡ with_e a q) × (from : List Token) × (IsBuilt text X.product a from rest) × ((b : Built) (taken : Token) (r : List Token) → IsBuilt text X.product b from r → K taken r (with_e b q))
Means text of_unary last rest p K = (b : Built) (taken : Token) (r : List Token) → IsBuilt text X.sign b rest r → K taken r (with_e b p)
Means text of_sign last rest p K = (b : Built) (taken : Token) (r : List Token) → IsBuilt text X.sign b rest r → K taken r (with_e b p)
Means text of_primary last rest p K = (b : Built) (taken : Token) (r : List Token) → IsBuilt text X.primary b rest r → K taken r (with_e b p)
Means text of_intervals last rest p K = (a : Built) × (q : Parts) × (p ≡ with_e a q) × (from : List Token) × (IsBuilt text X.primary a from rest) × ((b : Built) (taken : Token) (r : List Token) → IsBuilt text X.primary b from r → K taken r (with_e b q))
Means text of_interval last rest p K = (a : Built) × (q : Parts) × (p ≡ with_e a q) × (from : List Token) × (IsBuilt text X.primary a from rest) × ((b : Built) (taken : Token) (r : List Token) → IsBuilt text X.primary b from r → K taken r (with_e b q))
Means text of_plus_unit last rest p K = (a : Built) × (n : ℕ) × (q : Parts) × (p ≡ with_e a (with_count n q)) × (from : List Token) × ((c d e : List Token) × IsBuilt text X.primary a from c × T.Word text class.plus c d × T.Word text class.INTERVAL d e × T.Digits text n e rest) × ((b : Built) (taken : Token) (r : List Token) → IsBuilt text X.primary b from r → K taken r (with_e b q))
Means text of_minus_unit last rest p K = (a : Built) × (n : ℕ) × (q : Parts) × (p ≡ with_e a (with_count n q)) × (from : List Token) × ((c d e : List Token) × IsBuilt text X.primary a from c × T.Word text class.minus c d × T.Word text class.INTERVAL d e × T.Digits text n e rest) × ((b : Built) (taken : Token) (r : List Token) → IsBuilt text X.primary b from r → K taken r (with_e b q))
Means text of_simple last rest p K = (b : Built) (taken : Token) (r : List Token) → IsBuilt text X.primary b rest r → K taken r (with_e b p)
Means text of_qualified last rest p K = (n : Identifier) × (q : Parts) × (p ≡ with_name n q) × (from : List Token) × (T.Name text n from rest) × ((b : Built) (taken : Token) (r : List Token) → IsBuilt text X.primary b from r → K taken r (with_e b q))
Means text of_arms last rest p K = (xs : List CaseArm) × (d : ℕ) × (at : ℕ) × (q : Parts) × (p ≡ with_case (record { arms = xs; depth = d; at = at }) q) × (from : List Token) × (X.SpellsArms text xs from rest) × ((ys : List CaseArm) (e : ℕ) (taken : Token) (r : List Token) → X.SpellsArms text ys from r → K taken r (with_case (record { arms = ys; depth = e; at = at }) q))
Means text of_for last rest p K = (at : ℕ) × (s : Built) × (t : Built) × (q : Parts) × (p ≡ with_place at (with_e s (with_e t q))) × (from : List Token) × ((a b c d : List Token) × (at ≡ start_of from) × T.Word text class.SUBSTRING from a × T.Word text class.left_parenthesis a b × IsBuilt text X.disjunction t b c × T.Word text class.FROM c d × IsBuilt text X.disjunction s d rest) × ((y : Built) (taken : Token) (r : List Token) → IsBuilt text X.primary y from r → K taken r (with_e y q))
Means text of_trim last rest p K = (at : ℕ) × (q : Parts) × (p ≡ with_place at q) × (from : List Token) × ((a : List Token) × (at ≡ start_of from) × T.Word text class.TRIM from a × T.Word text class.left_parenthesis a rest) × ((b : Built) (taken : Token) (r : List Token) → ((c : List Token) → T.Word text class.right_parenthesis r c → IsBuilt text X.primary b from c) → K taken r (with_e b q))
Means text of_trim_side last rest p K = (at : ℕ) × (f : TrimForm) × (q : Parts) × (p ≡ with_place at (with_form f q)) × (from : List Token) × ((a b : List Token) × (at ≡ start_of from) × T.Word text class.TRIM from a × T.Word text class.left_parenthesis a b × X.SpellsSide text f b rest) × ((y : Built) (taken : Token) (r : List Token) → ((c : List Token) → T.Word text class.right_parenthesis r c → IsBuilt text X.primary y from c) → K taken r (with_e y q))
Means text of_trim_tail last rest p K = (at : ℕ) × (x : Built) × (q : Parts) × (p ≡ with_place at (with_e x q)) × (from : List Token) × ((a b : List Token) × (at ≡ start_of from) × T.Word text class.TRIM from a × T.Word text class.left_parenthesis a b × IsBuilt text X.disjunction x b rest) × ((y : Built) (taken : Token) (r : List Token) → ((c : List Token) → T.Word text class.right_parenthesis r c → IsBuilt text X.primary y from c) → K taken r (with_e y q))
Means text of_field last rest p K = (f : DateField) (taken : Token) (r : List Token) → ((k : ℕ) × X.Fields f k × T.Word text k rest r) → K taken r (with_field f p)
Means text of_count last rest p K = (at : ℕ) × (q : Parts) × (p ≡ with_place at q) × (from : List Token) × ((a : List Token) × (at ≡ start_of from) × T.Word text class.COUNT from a × T.Word text class.left_parenthesis a rest) × ((b : Built) (taken : Token) (r : List Token) → IsBuilt text X.primary b from r → K taken r (with_e b q))
Means text of_counted last rest p K = (f : Bool) (b : Built) (taken : Token) (r : List Token) → ((a : List Token) × T.Flag text class.DISTINCT f rest a × IsBuilt text X.disjunction b a r) → K taken r (with_flag f (with_e b p))
Means text of_none last rest p K = Unit {0}

abbrev pub rules : List (ℕ × Rule)
rules =
    (class.start, of_start) ∷
    (class.semicolon, of_semicolon) ∷
    (class.work, of_work) ∷
    (class.outer, of_outer) ∷
    (class.as_part, of_as) ∷
    (class.statement, of_statement) ∷
    (class.rollback, of_rollback) ∷
    (class.start_modes, of_start_modes) ∷
    (class.modes, of_modes) ∷
    (class.modes_more, of_modes_more) ∷
    (class.mode, of_mode) ∷
    (class.access, of_access) ∷
    (class.level, of_level) ∷
    (class.committed, of_committed) ∷
    (class.name, of_name) ∷
    (class.names, of_names) ∷
    (class.names_more, of_names_more) ∷
    (class.number, of_number) ∷
    (class.text, of_text) ∷
    (class.literal, of_literal) ∷
    (class.query, of_query) ∷
    (class.ordering, of_ordering) ∷
    (class.keys, of_keys) ∷
    (class.keys_more, of_keys_more) ∷
    (class.key, of_key) ∷
    (class.direction, of_direction) ∷
    (class.limiting, of_limiting) ∷
    (class.limit, of_limit) ∷
    (class.offset, of_offset) ∷
    (class.ordered, of_ordered) ∷
    (class.body, of_body) ∷
    (class.term, of_term) ∷
    (class.core, of_core) ∷
    (class.body_more, of_body_more) ∷
    (class.union, of_union) ∷
    (class.term_more, of_term_more) ∷
    (class.select, of_select) ∷
    (class.distinct, of_distinct) ∷
    (class.items, of_items) ∷
    (class.items_more, of_items_more) ∷
    (class.item, of_item) ∷
    (class.froms, of_froms) ∷
    (class.froms_more, of_froms_more) ∷
    (class.from, of_from) ∷
    (class.joins, of_joins) ∷
    (class.table, of_table) ∷
    (class.where_part, of_where) ∷
    (class.update_where, of_update_where) ∷
    (class.delete_where, of_delete_where) ∷
    (class.having, of_having) ∷
    (class.else, of_else) ∷
    (class.group, of_group) ∷
    (class.group_more, of_group_more) ∷
    (class.es, of_es) ∷
    (class.es_more, of_es_more) ∷
    (class.rows, of_rows) ∷
    (class.rows_more, of_rows_more) ∷
    (class.row, of_row) ∷
    (class.alias, of_alias) ∷
    (class.insert, of_insert) ∷
    (class.source, of_source) ∷
    (class.contents, of_contents) ∷
    (class.tuples, of_tuples) ∷
    (class.tuples_more, of_tuples_more) ∷
    (class.tuple, of_tuple) ∷
    (class.values_more, of_values_more) ∷
    (class.tuple_value, of_tuple_value) ∷
    (class.inserted_query, of_inserted_query) ∷
    (class.query_tail, of_query_tail) ∷
    (class.rows_of_values, of_rows_of_values) ∷
    (class.rows_of_values_more, of_rows_of_values_more) ∷
    (class.row_of_values, of_row_of_values) ∷
    (class.row_of_values_more, of_row_of_values_more) ∷
    (class.behind_rows, of_behind_rows) ∷
    (class.update, of_update) ∷
    (class.pairs_more, of_pairs_more) ∷
    (class.pair, of_pair) ∷
    (class.value, of_value) ∷
    (class.delete, of_delete) ∷
    (class.lock, of_lock) ∷
    (class.claims_more, of_claims_more) ∷
    (class.claim, of_claim) ∷
    (class.claimed, of_claimed) ∷
    (class.create, of_create) ∷
    (class.created, of_created) ∷
    (class.table_definition, of_table_definition) ∷
    (class.elements_more, of_elements_more) ∷
    (class.element, of_element) ∷
    (class.column, of_column) ∷
    (class.default, of_default) ∷
    (class.signed_literal, of_signed_literal) ∷
    (class.column_constraints, of_column_constraints) ∷
    (class.column_rule, of_column_rule) ∷
    (class.referenced_name, of_referenced_name) ∷
    (class.referenced_names, of_referenced_names) ∷
    (class.table_constraint, of_table_constraint) ∷
    (class.table_rule, of_table_rule) ∷
    (class.actions, of_actions) ∷
    (class.acting, of_acting) ∷
    (class.action, of_action) ∷
    (class.set_to, of_set_to) ∷
    (class.type, of_type) ∷
    (class.decimal, of_decimal) ∷
    (class.alter, of_alter) ∷
    (class.altered, of_altered) ∷
    (class.added, of_added) ∷
    (class.drop, of_drop) ∷
    (class.dropped, of_dropped) ∷
    (class.set, of_set) ∷
    (class.setting, of_setting) ∷
    (class.database_setting, of_database_setting) ∷
    (class.control, of_control) ∷
    (class.default_level, of_default_level) ∷
    (class.default_committed, of_default_committed) ∷
    (class.truth, of_truth) ∷
    (class.write_delay, of_write_delay) ∷
    (class.e, of_e) ∷
    (class.or_more, of_or_more) ∷
    (class.conjunction, of_conjunction) ∷
    (class.and_more, of_and_more) ∷
    (class.negation, of_negation) ∷
    (class.compared, of_compared) ∷
    (class.comparison, of_comparison) ∷
    (class.is, of_is) ∷
    (class.negated, of_negated) ∷
    (class.in_part, of_in) ∷
    (class.escape, of_escape) ∷
    (class.sum, of_sum) ∷
    (class.sum_more, of_sum_more) ∷
    (class.addition, of_addition) ∷
    (class.product, of_product) ∷
    (class.product_more, of_product_more) ∷
    (class.multiplication, of_multiplication) ∷
    (class.unary, of_unary) ∷
    (class.sign, of_sign) ∷
    (class.primary, of_primary) ∷
    (class.intervals, of_intervals) ∷
    (class.interval, of_interval) ∷
    (class.plus_unit, of_plus_unit) ∷
    (class.minus_unit, of_minus_unit) ∷
    (class.simple, of_simple) ∷
    (class.qualified, of_qualified) ∷
    (class.arms, of_arms) ∷
    (class.for, of_for) ∷
    (class.trim, of_trim) ∷
    (class.trim_side, of_trim_side) ∷
    (class.trim_tail, of_trim_tail) ∷
    (class.field, of_field) ∷
    (class.count, of_count) ∷
    (class.counted, of_counted) ∷
    []

abbrev pub look : List (ℕ × Rule) → ℕ → Rule
look [] n = of_none
look (r ∷ rs) n = if nat_eq r.0 n then r.1 else look rs n

abbrev pub means : List ℕ → ℕ → Token → List Token → Parts → Claim → Type 0
means text n = Means text (look rules n)

abbrev pub Kept : List ℕ → Production → Type 1
Kept text x = Keeps text (means text) x
