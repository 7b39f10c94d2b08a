-- What is said of parts between two places in the tokens, and how it is shown.
use Rattle.std.proofs.Common.{◌≡◌, ℕ, zero, suc, ◌+◌, ◌≤◌, Bool, true, false, List, [], ◌∷◌, ◌++◌, map, Option, Some, None, unwrap_or, refl, ap, sym, ◌∙◌, subst, arith, ◌⊎◌, inl, inr}
use Rattle.std.specs.Prelude.{IsTrue, nat_eq}
use Rattle.std.specs.List.{list_any}
use Rattle.hs_ast.specs.declared.change.Delete.{Delete}
use Rattle.hs_ast.specs.declared.change.LockedTable.{LockedTable}
use Rattle.hs_ast.specs.declared.change.NewValue.{NewValue}
use Rattle.hs_ast.specs.declared.change.NewValue.TheVariants as value
use Rattle.hs_ast.specs.declared.change.Update.{Update}
use Rattle.hs_ast.specs.declared.definition.ColumnDefinition.{ColumnDefinition}
use Rattle.hs_ast.specs.declared.definition.CreateTable.{CreateTable}
use Rattle.hs_ast.specs.declared.definition.DataType.{DataType}
use Rattle.hs_ast.specs.declared.definition.ForeignKey.{ForeignKey}
use Rattle.hs_ast.specs.declared.definition.ReferentialAction.{ReferentialAction}
use Rattle.hs_ast.specs.declared.definition.TableConstraint.{TableConstraint}
use Rattle.hs_ast.specs.declared.expression.DateField.{DateField}
use Rattle.hs_ast.specs.declared.expression.Expression.{Expression, roll-Expression}
use Rattle.hs_ast.specs.declared.expression.ExpressionKind.{ExpressionKind}
use Rattle.hs_ast.specs.declared.expression.ExpressionKind.TheVariants as kind
use Rattle.hs_ast.specs.declared.expression.TrimForm.{TrimForm}
use Rattle.hs_ast.specs.declared.query.FromItem.{FromItem}
use Rattle.hs_ast.specs.declared.query.Limit.{Limit}
use Rattle.hs_ast.specs.declared.query.Query.{roll-Query}
use Rattle.hs_ast.specs.declared.query.QueryBody.{QueryBody}
use Rattle.hs_ast.specs.declared.query.QueryBody.TheVariants as body
use Rattle.hs_ast.specs.declared.query.SetOperator.{SetOperator}
use Rattle.hs_ast.specs.declared.change.InsertSource.TheVariants as source
use Rattle.hs_ast.specs.declared.query.SelectItem.{SelectItem}
use Rattle.hs_ast.specs.declared.query.SortKey.{SortKey}
use Rattle.hs_ast.specs.declared.session.Modes.{Modes}
use Rattle.hs_ast.specs.declared.statement.Stmt.{Stmt}
use Rattle.hs_ast.specs.declared.word.Identifier.{Identifier}
use Rattle.hs_builder.specs.Changes.{expressions_in, rows_in, row_of, with_value}
use Rattle.hs_builder.specs.Expressions.{built, built_from}
use Rattle.hs_builder.specs.Queries.{body_at}
use Rattle.hs_builder.specs.declared.part.Built.{Built}
use Rattle.hs_builder.specs.declared.part.BuiltBody.{BuiltBody}
use Rattle.hs_builder.specs.declared.part.BuiltCase.{BuiltCase}
use Rattle.hs_builder.specs.declared.part.BuiltFrom.{BuiltFrom}
use Rattle.hs_builder.specs.declared.part.BuiltList.{BuiltList}
use Rattle.hs_builder.specs.declared.part.BuiltOptional.{BuiltOptional}
use Rattle.hs_builder.specs.declared.part.BuiltQuery.{BuiltQuery}
use Rattle.hs_builder.specs.declared.part.BuiltRows.{BuiltRows}
use Rattle.hs_builder.specs.declared.part.BuiltSelect.{BuiltSelect}
use Rattle.hs_builder.specs.declared.part.BuiltTable.{BuiltTable}
use Rattle.hs_builder.specs.declared.part.BuiltTuple.{BuiltTuple}
use Rattle.hs_builder.specs.declared.part.BuiltTuples.{BuiltTuples}
use Rattle.hs_builder.specs.declared.part.ConstraintHeader.{ConstraintHeader}
use Rattle.hs_builder.specs.declared.part.InsertTarget.{InsertTarget}
use Rattle.hs_builder.specs.declared.part.Parts.{Parts}
use Rattle.hs_builder.specs.declared.part.PlacedLiteral.{PlacedLiteral}
use Rattle.hs_builder.specs.declared.part.PlacedNumber.{PlacedNumber}
use Rattle.hs_builder.specs.declared.part.PlacedText.{PlacedText}
use Rattle.hs_builder.specs.Leaves.{number_in, units_of}
use Rattle.hs_lexer.specs.Content.{written, name_of, text_of}
use Rattle.hs_lexer.specs.declared.token.Token.{Token}
use Rattle.hs_syntax.specs.Classes.{class_of}
use Rattle.hs_syntax.specs.Names as class
use Rattle.hs_syntax.specs.Words.{name_classes}
use Rattle.hs_spelling.specs.Expressions as X
use Rattle.hs_spelling.specs.Literals as L
use Rattle.hs_spelling.specs.Statements as Z
use Rattle.hs_spelling.specs.Tokens as T
use Rattle.hs_spelling.specs.Tokens.{start_of, First}
use Rattle.hs_spelling.proofs.Promises.{Scaled}

-- ---- a part more on its stack

abbrev pub with_place : ℕ → Parts → Parts
with_place x p = record p { leaves = record p.leaves { places = x ∷ p.leaves.places } }

abbrev pub with_name : Identifier → Parts → Parts
with_name x p = record p { leaves = record p.leaves { names = x ∷ p.leaves.names } }

abbrev pub with_names : List Identifier → Parts → Parts
with_names x p = record p { leaves = record p.leaves { name_lists = x ∷ p.leaves.name_lists } }

abbrev pub with_alias : Option Identifier → Parts → Parts
with_alias x p = record p { leaves = record p.leaves { aliases = x ∷ p.leaves.aliases } }

abbrev pub with_flag : Bool → Parts → Parts
with_flag x p = record p { leaves = record p.leaves { flags = x ∷ p.leaves.flags } }

abbrev pub with_number : PlacedNumber → Parts → Parts
with_number x p = record p { leaves = record p.leaves { numbers = x ∷ p.leaves.numbers } }

abbrev pub with_text : PlacedText → Parts → Parts
with_text x p = record p { leaves = record p.leaves { texts = x ∷ p.leaves.texts } }

abbrev pub with_literal : PlacedLiteral → Parts → Parts
with_literal x p = record p { leaves = record p.leaves { literals = x ∷ p.leaves.literals } }

abbrev pub with_type : DataType → Parts → Parts
with_type x p = record p { leaves = record p.leaves { types = x ∷ p.leaves.types } }

abbrev pub with_e : Built → Parts → Parts
with_e x p = record p { expressions = record p.expressions { whole = x ∷ p.expressions.whole } }

abbrev pub with_list : BuiltList → Parts → Parts
with_list x p = record p { expressions = record p.expressions { lists = x ∷ p.expressions.lists } }

abbrev pub with_case : BuiltCase → Parts → Parts
with_case x p = record p { expressions = record p.expressions { cases = x ∷ p.expressions.cases } }

abbrev pub with_form : TrimForm → Parts → Parts
with_form x p = record p { expressions = record p.expressions { forms = x ∷ p.expressions.forms } }

abbrev pub with_field : DateField → Parts → Parts
with_field x p = record p { expressions = record p.expressions { fields = x ∷ p.expressions.fields } }

abbrev pub with_count : ℕ → Parts → Parts
with_count x p = record p { expressions = record p.expressions { counts = x ∷ p.expressions.counts } }

abbrev pub with_optional : BuiltOptional → Parts → Parts
with_optional x p = record p { expressions = record p.expressions { optional = x ∷ p.expressions.optional } }

abbrev pub with_select : BuiltSelect → Parts → Parts
with_select x p = record p { queries = record p.queries { selects = x ∷ p.queries.selects } }

abbrev pub with_table : BuiltTable → Parts → Parts
with_table x p = record p { queries = record p.queries { tables = x ∷ p.queries.tables } }

abbrev pub with_from : BuiltFrom → Parts → Parts
with_from x p = record p { queries = record p.queries { froms = x ∷ p.queries.froms } }

abbrev pub with_rows : BuiltRows → Parts → Parts
with_rows x p = record p { queries = record p.queries { rows = x ∷ p.queries.rows } }

abbrev pub with_body : BuiltBody → Parts → Parts
with_body x p = record p { queries = record p.queries { bodies = x ∷ p.queries.bodies } }

abbrev pub with_query : BuiltQuery → Parts → Parts
with_query x p = record p { queries = record p.queries { whole = x ∷ p.queries.whole } }

abbrev pub with_target : InsertTarget → Parts → Parts
with_target x p = record p { changes = record p.changes { targets = x ∷ p.changes.targets } }

abbrev pub with_tuple : BuiltTuple → Parts → Parts
with_tuple x p = record p { changes = record p.changes { tuples = x ∷ p.changes.tuples } }

abbrev pub with_tuples : BuiltTuples → Parts → Parts
with_tuples x p = record p { changes = record p.changes { tuple_lists = x ∷ p.changes.tuple_lists } }

abbrev pub with_update : Update → Parts → Parts
with_update x p = record p { changes = record p.changes { updates = x ∷ p.changes.updates } }

abbrev pub with_delete : Delete → Parts → Parts
with_delete x p = record p { changes = record p.changes { deletes = x ∷ p.changes.deletes } }

abbrev pub with_locks : List LockedTable → Parts → Parts
with_locks x p = record p { changes = record p.changes { locks = x ∷ p.changes.locks } }

abbrev pub with_definition : CreateTable → Parts → Parts
with_definition x p = record p { definitions = record p.definitions { tables = x ∷ p.definitions.tables } }

abbrev pub with_column : ColumnDefinition → Parts → Parts
with_column x p = record p { definitions = record p.definitions { columns = x ∷ p.definitions.columns } }

abbrev pub with_header : ConstraintHeader → Parts → Parts
with_header x p = record p { definitions = record p.definitions { headers = x ∷ p.definitions.headers } }

abbrev pub with_key : ForeignKey → Parts → Parts
with_key x p = record p { definitions = record p.definitions { keys = x ∷ p.definitions.keys } }

abbrev pub with_action : ReferentialAction → Parts → Parts
with_action x p = record p { definitions = record p.definitions { actions = x ∷ p.definitions.actions } }

abbrev pub with_constraint : TableConstraint → Parts → Parts
with_constraint x p = record p { definitions = record p.definitions { constraints = x ∷ p.definitions.constraints } }

abbrev pub with_modes : Modes → Parts → Parts
with_modes x p = record p { modes = x ∷ p.modes }

abbrev pub with_statement : Stmt → Parts → Parts
with_statement x p = record p { statements = x ∷ p.statements }

-- ---- parts as far as they are read

abbrev pub ordered_by : QueryBody → List SortKey → Option Limit → ℕ → ℕ → BuiltQuery
ordered_by body keys limit depth at = record { body = body; order_by = keys; limit = limit; depth = depth; at = at }

abbrev pub selected : Bool → List SelectItem → List FromItem → List Expression → ℕ → ℕ → BuiltSelect
selected distinct items from group depth at = record { distinct = distinct; items = items; from = from; group_by = group; depth = depth; at = at }

-- ---- tokens

pub first_at : {P : Token → Type 0} {a b : List Token} (w : First P a b) → w.0.start ≡ start_of a
first_at w = sym (ap start_of w.1)

abbrev pub is_name_class : ℕ → Bool
is_name_class c = list_any (λ class. nat_eq class c) name_classes

at_most : (c d e : ℕ) → c ≤ d → d ≤ e → c ≤ e
at_most c d e h k = omega (arith, h, k)

module _ (text : List ℕ) {a b : List Token} where
  pub named_at : {n : Identifier} → T.Name text n a b → n.at ≡ start_of a
  named_at w = ap (λ n. n.at) w.2.1 ∙ first_at w

  pub name_word : {c : ℕ} → IsTrue (is_name_class c) → (w : T.Word text c a b) → T.Name text (record { name = name_of text w.0; at = w.0.start }) a b
  name_word h w = (w.0, w.1, (subst (λ c. IsTrue (is_name_class c)) (sym w.2) h, refl))

  abbrev pub numeral : (w : T.Between text class.number_0 class.fraction a b) → T.Numeral text (number_in (written text w.0)) a b
  numeral w = (w.0, w.1, (w.2.0, w.2.1, refl))

  abbrev pub told : (w : T.Between text class.digit_text class.other_text a b) → T.Told text (text_of text w.0) a b
  told w = (w.0, w.1, (w.2.0, w.2.1, refl))

  abbrev pub whole_number : {low high : ℕ} (w : T.Between text low high a b) → T.Whole text low high (units_of (written text w.0)) a b
  whole_number w = (w.0, w.1, (w.2.0, w.2.1, refl))

  abbrev pub digits : (w : T.Word text class.digit_text a b) → T.Digits text (units_of (text_of text w.0)) a b
  digits w = (w.0, w.1, (w.2, refl))

  abbrev pub precision_of : (w : Scaled text a b) → T.Whole text class.number_1 class.number_38 (units_of (written text w.first)) a w.then
  precision_of w = (w.first, w.is, (w.least, w.most, refl))

  pub within : (w : Scaled text a b) → class_of text w.second ≤ class.number_38
  within w = at_most (class_of text w.second) (class_of text w.first) class.number_38 w.not_above w.most

  abbrev pub scale_of : (w : Scaled text a b) → T.Whole text class.number_0 class.number_38 (units_of (written text w.second)) w.last b
  scale_of w = (w.second, w.ends, (w.natural, within w, refl))

-- ---- expressions

-- an expression that is spelled here, with the place of its first byte
pub record IsBuilt (text : List ℕ) (level : ℕ) (b : Built) (from rest : List Token) : Type 0 where
  pub spelled : X.SpellsExpression text level b.tree from rest
  pub at : b.start ≡ start_of from

module _ {text : List ℕ} {from rest : List Token} where
  pub made : {n at d : ℕ} {k : ExpressionKind} → at ≡ start_of from → X.SpellsKind text n k from rest → IsBuilt text n (built at k d) from rest
  made e k = record { spelled = X.bare e k; at = e }

  pub loose : {n : ℕ} {b : Built} → IsBuilt text (suc n) b from rest → IsBuilt text n b from rest
  loose x = record { spelled = X.closer x.spelled; at = x.at }

-- ---- bodies

-- a body with no parentheses round it, or as an expression that stands at the innermost of them
abbrev pub Inside : List ℕ → Option ℕ → ℕ → QueryBody → List Token → List Token → Type 0
Inside text None at tree from rest = (n : ℕ) × X.SpellsPlainBody text n at tree from rest
Inside text (Some place) at tree from rest = X.SpellsExpression text X.primary (roll-Expression (record { at = place; kind = kind.Subquery (roll-Query (record { at = at; body = tree; order_by = []; limit = None })) })) from rest

pub record IsBody (text : List ℕ) (level : ℕ) (b : BuiltBody) (from rest : List Token) : Type 0 where
  pub spelled : X.SpellsBody text level b.at b.tree from rest
  pub inside : Inside text b.bracket b.at b.tree from rest

module _ {text : List ℕ} {from rest : List Token} where
  pub made_body : {n at d : ℕ} {tree : QueryBody} → X.SpellsPlainBody text n at tree from rest → IsBody text n (body_at at tree d) from rest
  made_body {n = n} x = record { spelled = X.plain x; inside = (n, x) }

  pub loose_body : {n : ℕ} {b : BuiltBody} → IsBody text (suc n) b from rest → IsBody text n b from rest
  loose_body x = record { spelled = X.closer_body x.spelled; inside = x.inside }

  pub loosest_body : {b : BuiltBody} → IsBody text X.core b from rest → IsBody text X.any b from rest
  loosest_body x = loose_body (loose_body x)

loosest : {text : List ℕ} {from rest : List Token} {x : Expression} → X.SpellsExpression text X.primary x from rest → X.SpellsExpression text X.disjunction x from rest
loosest x = X.closer (X.closer (X.closer (X.closer (X.closer (X.closer x)))))

in_more : {text : List ℕ} {a b c d : List Token} (o : Option ℕ) (at : ℕ) (tree : QueryBody) (w : T.Word text class.left_parenthesis a b) → Inside text o at tree b c → T.Word text class.right_parenthesis c d → Inside text (Some (unwrap_or o w.0.start)) at tree a d
in_more None at tree w x v = X.bare (first_at w) (X.subquery w x.1 v)
in_more (Some place) at tree w x v = X.in_parentheses w (loosest x) v

module _ {text : List ℕ} {a b c d : List Token} where
  pub in_brackets : {x : BuiltBody} (w : T.Word text class.left_parenthesis a b) → IsBody text X.any x b c → T.Word text class.right_parenthesis c d → IsBody text X.core (record x { bracket = Some (unwrap_or x.bracket w.0.start) }) a d
  in_brackets {x = x} w y v = record { spelled = X.body_in_parentheses w y.spelled v; inside = in_more x.bracket x.at x.tree w y.inside v }

  pub made_subquery : {x : BuiltBody} {depth : ℕ} (w : T.Word text class.left_parenthesis a b) → IsBody text X.any x b c → T.Word text class.right_parenthesis c d
      → IsBuilt text X.primary (built_from (unwrap_or x.bracket w.0.start) w.0.start (kind.Subquery (roll-Query (record { at = x.at; body = x.tree; order_by = []; limit = None }))) depth) a d
  made_subquery {x = x} w y v = record { spelled = in_more x.bracket x.at x.tree w y.inside v; at = first_at w }

-- a body as it was, or a set operation
abbrev pub IsSet : QueryBody → Type 0
IsSet x = (operator : SetOperator) × (y z : QueryBody) × (x ≡ body.SetOperation operator y z)

abbrev pub Grew : QueryBody → QueryBody → Type 0
Grew a b = (b ≡ a) ⊎ IsSet b

pub grew_on : (a b : QueryBody) → IsSet a → Grew a b → IsSet b
grew_on a b s (inl e) = (s.0, s.1, s.2, e ∙ s.3)
grew_on a b s (inr t) = t

module _ {text : List ℕ} {from : List Token} where
  pub set_no_tuples : {x : QueryBody} → IsSet x → Z.IsNoTuples text x from
  set_no_tuples s = subst (λ z. Z.IsNoTuples text z from) (sym s.3) (Z.set_operation s.0 s.1 s.2)

  pub no_tuples : (a b : QueryBody) → Z.IsNoTuples text a from → Grew a b → Z.IsNoTuples text b from
  no_tuples a b n (inl e) = subst (λ z. Z.IsNoTuples text z from) (sym e) n
  no_tuples a b n (inr s) = set_no_tuples s

-- a word that isn't VALUES
pub begins_otherwise : {text : List ℕ} {c : ℕ} {x : QueryBody} {a b : List Token} → (c ≡ class.VALUES → ⊥) → T.Word text c a b → Z.IsNoTuples text x a
begins_otherwise {text = text} {x = x} n w = subst (λ z. Z.IsNoTuples text x z) (sym w.1) (Z.other_word (λ e. n (sym w.2 ∙ e)))

-- ---- queries

-- ORDER BY and its keys, or nothing
pub data Ordering (text : List ℕ) : List SortKey → List Token → List Token → Type 0 where
  unordered : {a : List Token} → Ordering text [] a a
  by_keys : {ks : List SortKey} {a b c d : List Token} → T.Word text class.ORDER a b → T.Word text class.BY b c → X.SpellsKeys text ks c d → Ordering text ks a d

rows_behind : (ts : List (List NewValue)) (t : List NewValue) → rows_in ts ++ row_of t ∷ [] ≡ rows_in (ts ++ t ∷ [])
rows_behind [] t = refl
rows_behind (u ∷ ts) t = ap (λ z. row_of u ∷ z) (rows_behind ts t)

with_behind : (v : NewValue) (xs : List Expression) (x : Expression) → with_value v xs ++ x ∷ [] ≡ with_value v (xs ++ x ∷ [])
with_behind (value.Expression y) xs x = refl
with_behind (value.Default at) xs x = refl

expressions_behind : (vs : List NewValue) (x : Expression) → expressions_in vs ++ x ∷ [] ≡ expressions_in (vs ++ value.Expression x ∷ [])
expressions_behind [] x = refl
expressions_behind (v ∷ vs) x = with_behind v (expressions_in vs) x ∙ ap (with_value v) (expressions_behind vs x)

module _ {text : List ℕ} where
  pub whole_query : {at : ℕ} {tree : QueryBody} {ks : List SortKey} {l : Option Limit} {a b c d : List Token} → X.SpellsBody text X.any at tree a b → Ordering text ks b c → X.SpellsLimiting text l c d
      → X.SpellsQuery text (roll-Query (record { at = at; body = tree; order_by = ks; limit = l })) a d
  whole_query x unordered X.no_limit = X.plain_query x
  whole_query x unordered (X.limiting w l) = X.ordered_query x (X.limited w l)
  whole_query x (by_keys v w ks) l = X.ordered_query x (X.ordered v w ks l)

  pub whole_source : {at : ℕ} {tree : QueryBody} {ks : List SortKey} {l : Option Limit} {a b c d : List Token} → X.SpellsBody text X.any at tree a b → Z.IsNoTuples text tree a → Ordering text ks b c → X.SpellsLimiting text l c d
      → Z.SpellsSource text (source.Query (roll-Query (record { at = at; body = tree; order_by = ks; limit = l }))) a d
  whole_source x n unordered X.no_limit = Z.of_body x n
  whole_source x n unordered (X.limiting w l) = Z.of_ordered x (X.limited w l)
  whole_source x n (by_keys v w ks) l = Z.of_ordered x (X.ordered v w ks l)

  pub more_of_tuples : (ts : List (List NewValue)) (t : List NewValue) {a b c d : List Token} → X.SpellsRows text (rows_in ts) a b → T.Word text class.comma b c → X.SpellsRow text (row_of t) c d → X.SpellsRows text (rows_in (ts ++ t ∷ [])) a d
  more_of_tuples ts t {a = a} {d = d} x w y = subst (λ z. X.SpellsRows text z a d) (rows_behind ts t) (X.more_rows x w y)

  pub more_of_values : (vs : List NewValue) (x : Expression) {a b c d : List Token} → X.SpellsExpressions text (expressions_in vs) a b → T.Word text class.comma b c → X.SpellsExpression text X.disjunction x c d
      → X.SpellsExpressions text (expressions_in (vs ++ value.Expression x ∷ [])) a d
  more_of_values vs x {a = a} {d = d} y w z = subst (λ v. X.SpellsExpressions text v a d) (expressions_behind vs x) (X.more_expressions y w z)
