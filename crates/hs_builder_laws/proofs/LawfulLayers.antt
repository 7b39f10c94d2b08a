-- Each layer of a lawful tree is made of lawful parts.
use Rattle.std.proofs.Common.{◌≡◌, ℕ, Bool, true, false, ◌&&◌, List, [], ◌∷◌, ◌++◌, map, Option, Some, None, refl, ap, sym, ◌∙◌}
use Rattle.std.specs.List.{list_all}
use Rattle.std.proofs.lemmas.List.Folds.{list_all-map}
use Rattle.hs_ast.specs.Lawful as law
use Rattle.hs_ast.specs.Lawful.{is_lawful, is_lawful_query, is_identifier, if_written}
use Rattle.hs_ast.specs.declared.definition.DataType.{DataType}
use Rattle.hs_ast.specs.declared.expression.Aggregate.{Aggregate}
use Rattle.hs_ast.specs.declared.expression.BinaryOperator.{BinaryOperator}
use Rattle.hs_ast.specs.declared.expression.CaseArm.{CaseArm, roll-CaseArm, fold-roll-CaseArm}
use Rattle.hs_ast.specs.declared.expression.ColumnName.{ColumnName}
use Rattle.hs_ast.specs.declared.expression.DateField.{DateField}
use Rattle.hs_ast.specs.declared.expression.Expression.{Expression, roll-Expression, fold-roll-Expression}
use Rattle.hs_ast.specs.declared.expression.ExpressionKind.{fold-roll-ExpressionKind}
use Rattle.hs_ast.specs.declared.expression.ExpressionKind.TheOpen.{ExpressionKind-F, Join-F, QueryBody-F, SelectItem-F, TableReference-F}
use Rattle.hs_ast.specs.declared.expression.ExpressionKind.TheVariants as kind
use Rattle.hs_ast.specs.declared.expression.Function.{Function}
use Rattle.hs_ast.specs.declared.expression.IntervalUnit.{IntervalUnit}
use Rattle.hs_ast.specs.declared.expression.Sign.{Sign}
use Rattle.hs_ast.specs.declared.expression.TrimForm.{TrimForm}
use Rattle.hs_ast.specs.declared.literal.Literal.{Literal}
use Rattle.hs_ast.specs.declared.query.FromItem.{FromItem, roll-FromItem, fold-roll-FromItem}
use Rattle.hs_ast.specs.declared.query.Join.{Join, fold-roll-Join}
use Rattle.hs_ast.specs.declared.query.Join.TheVariants as join
use Rattle.hs_ast.specs.declared.query.Limit.{Limit}
use Rattle.hs_ast.specs.declared.query.Query.{Query, roll-Query, fold-roll-Query}
use Rattle.hs_ast.specs.declared.query.QueryBody.{QueryBody, fold-roll-QueryBody}
use Rattle.hs_ast.specs.declared.query.QueryBody.TheVariants as body
use Rattle.hs_ast.specs.declared.query.Select.{Select, roll-Select, fold-roll-Select}
use Rattle.hs_ast.specs.declared.query.SelectItem.{SelectItem, fold-roll-SelectItem}
use Rattle.hs_ast.specs.declared.query.SelectItem.TheVariants as shown
use Rattle.hs_ast.specs.declared.query.SetOperator.{SetOperator}
use Rattle.hs_ast.specs.declared.query.SortKey.{SortKey, roll-SortKey, fold-roll-SortKey}
use Rattle.hs_ast.specs.declared.query.TableReference.{TableReference, fold-roll-TableReference}
use Rattle.hs_ast.specs.declared.query.TableReference.TheVariants as table
use Rattle.hs_ast.specs.declared.query.ValuesRow.{ValuesRow, roll-ValuesRow, fold-roll-ValuesRow}
use Rattle.hs_ast.specs.declared.word.Identifier.{Identifier}
use Rattle.hs_builder_laws.specs.LawfulParts.{kind_lawful, arm_lawful, join_lawful, body_lawful, item_lawful, table_lawful, from_lawful, select_lawful, key_lawful, row_lawful}

-- ---- tests that hold together

pub false_is_true : false ≡ true → ⊥
false_is_true h = cc

pub both : (a b : Bool) → a ≡ true → b ≡ true → (a && b) ≡ true
both a b h k = ap (λ z. z && b) h ∙ k

pub left : (a b : Bool) → (a && b) ≡ true → a ≡ true
left true b h = refl
left false b h = h

pub right : (a b : Bool) → (a && b) ≡ true → b ≡ true
right true b h = h
right false b h = absurd (false_is_true h)

pub pushed : {A : Type 0} (test : A → Bool) (xs : List A) (x : A) → list_all test xs ≡ true → test x ≡ true → list_all test (xs ++ x ∷ []) ≡ true
pushed test [] x h k = both (test x) true k refl
pushed test (y ∷ xs) x h k = both (test y) (list_all test (xs ++ x ∷ [])) (left (test y) (list_all test xs) h) (pushed test xs x (right (test y) (list_all test xs) h) k)

-- the same of what a fold gives of each
in_fold : {A : Type 0} (test : A → Bool) (xs : List A) → list_all test xs ≡ true → law.all (map test xs) ≡ true
in_fold test xs h = list_all-map (λ is. is) test xs ∙ h

-- ---- expressions

pub literal : (at : ℕ) (l : Literal) → law.is_literal l ≡ true → is_lawful (roll-Expression (record { at = at; kind = kind.Literal l })) ≡ true
literal at l h = fold-roll-Expression Bool Bool Bool Bool Bool Bool Bool Bool Bool Bool Bool Bool law.of_kind law.of_join law.of_body law.of_item law.of_table law.of_arm law.of_expression law.of_from law.of_query law.of_select law.of_key law.of_row (record { at = at; kind = kind.Literal l }) ∙ ap kind_lawful (sym (kind.rolls-Literal l)) ∙ fold-roll-ExpressionKind Bool Bool Bool Bool Bool Bool Bool Bool Bool Bool Bool Bool law.of_kind law.of_join law.of_body law.of_item law.of_table law.of_arm law.of_expression law.of_from law.of_query law.of_select law.of_key law.of_row (ExpressionKind-F.Literal l) ∙ h

pub column : (at : ℕ) (name : ColumnName) → law.is_column name ≡ true → is_lawful (roll-Expression (record { at = at; kind = kind.Column name })) ≡ true
column at name h = fold-roll-Expression Bool Bool Bool Bool Bool Bool Bool Bool Bool Bool Bool Bool law.of_kind law.of_join law.of_body law.of_item law.of_table law.of_arm law.of_expression law.of_from law.of_query law.of_select law.of_key law.of_row (record { at = at; kind = kind.Column name }) ∙ ap kind_lawful (sym (kind.rolls-Column name)) ∙ fold-roll-ExpressionKind Bool Bool Bool Bool Bool Bool Bool Bool Bool Bool Bool Bool law.of_kind law.of_join law.of_body law.of_item law.of_table law.of_arm law.of_expression law.of_from law.of_query law.of_select law.of_key law.of_row (ExpressionKind-F.Column name) ∙ h

pub signed : (at : ℕ) (sign : Sign) (a : Expression) → is_lawful a ≡ true → is_lawful (roll-Expression (record { at = at; kind = kind.Signed sign a })) ≡ true
signed at sign a h = fold-roll-Expression Bool Bool Bool Bool Bool Bool Bool Bool Bool Bool Bool Bool law.of_kind law.of_join law.of_body law.of_item law.of_table law.of_arm law.of_expression law.of_from law.of_query law.of_select law.of_key law.of_row (record { at = at; kind = kind.Signed sign a }) ∙ ap kind_lawful (sym (kind.rolls-Signed sign a)) ∙ fold-roll-ExpressionKind Bool Bool Bool Bool Bool Bool Bool Bool Bool Bool Bool Bool law.of_kind law.of_join law.of_body law.of_item law.of_table law.of_arm law.of_expression law.of_from law.of_query law.of_select law.of_key law.of_row (ExpressionKind-F.Signed sign a) ∙ h

pub negation : (at : ℕ) (a : Expression) → is_lawful a ≡ true → is_lawful (roll-Expression (record { at = at; kind = kind.Not a })) ≡ true
negation at a h = fold-roll-Expression Bool Bool Bool Bool Bool Bool Bool Bool Bool Bool Bool Bool law.of_kind law.of_join law.of_body law.of_item law.of_table law.of_arm law.of_expression law.of_from law.of_query law.of_select law.of_key law.of_row (record { at = at; kind = kind.Not a }) ∙ ap kind_lawful (sym (kind.rolls-Not a)) ∙ fold-roll-ExpressionKind Bool Bool Bool Bool Bool Bool Bool Bool Bool Bool Bool Bool law.of_kind law.of_join law.of_body law.of_item law.of_table law.of_arm law.of_expression law.of_from law.of_query law.of_select law.of_key law.of_row (ExpressionKind-F.Not a) ∙ h

pub binary : (at : ℕ) (operator : BinaryOperator) (a : Expression) (b : Expression) → is_lawful a ≡ true → is_lawful b ≡ true → is_lawful (roll-Expression (record { at = at; kind = kind.Binary operator a b })) ≡ true
binary at operator a b h k = fold-roll-Expression Bool Bool Bool Bool Bool Bool Bool Bool Bool Bool Bool Bool law.of_kind law.of_join law.of_body law.of_item law.of_table law.of_arm law.of_expression law.of_from law.of_query law.of_select law.of_key law.of_row (record { at = at; kind = kind.Binary operator a b }) ∙ ap kind_lawful (sym (kind.rolls-Binary operator a b)) ∙ fold-roll-ExpressionKind Bool Bool Bool Bool Bool Bool Bool Bool Bool Bool Bool Bool law.of_kind law.of_join law.of_body law.of_item law.of_table law.of_arm law.of_expression law.of_from law.of_query law.of_select law.of_key law.of_row (ExpressionKind-F.Binary operator a b) ∙ both (is_lawful a) (is_lawful b) h k

pub is_null : (at : ℕ) (a : Expression) (negated : Bool) → is_lawful a ≡ true → is_lawful (roll-Expression (record { at = at; kind = kind.IsNull a negated })) ≡ true
is_null at a negated h = fold-roll-Expression Bool Bool Bool Bool Bool Bool Bool Bool Bool Bool Bool Bool law.of_kind law.of_join law.of_body law.of_item law.of_table law.of_arm law.of_expression law.of_from law.of_query law.of_select law.of_key law.of_row (record { at = at; kind = kind.IsNull a negated }) ∙ ap kind_lawful (sym (kind.rolls-IsNull a negated)) ∙ fold-roll-ExpressionKind Bool Bool Bool Bool Bool Bool Bool Bool Bool Bool Bool Bool law.of_kind law.of_join law.of_body law.of_item law.of_table law.of_arm law.of_expression law.of_from law.of_query law.of_select law.of_key law.of_row (ExpressionKind-F.IsNull a negated) ∙ h

pub between : (at : ℕ) (a : Expression) (negated : Bool) (low : Expression) (high : Expression) → is_lawful a ≡ true → is_lawful low ≡ true → is_lawful high ≡ true → is_lawful (roll-Expression (record { at = at; kind = kind.Between a negated low high })) ≡ true
between at a negated low high h k m = fold-roll-Expression Bool Bool Bool Bool Bool Bool Bool Bool Bool Bool Bool Bool law.of_kind law.of_join law.of_body law.of_item law.of_table law.of_arm law.of_expression law.of_from law.of_query law.of_select law.of_key law.of_row (record { at = at; kind = kind.Between a negated low high }) ∙ ap kind_lawful (sym (kind.rolls-Between a negated low high)) ∙ fold-roll-ExpressionKind Bool Bool Bool Bool Bool Bool Bool Bool Bool Bool Bool Bool law.of_kind law.of_join law.of_body law.of_item law.of_table law.of_arm law.of_expression law.of_from law.of_query law.of_select law.of_key law.of_row (ExpressionKind-F.Between a negated low high) ∙ both (is_lawful a) (is_lawful low && is_lawful high) h (both (is_lawful low) (is_lawful high) k m)

pub in_list : (at : ℕ) (a : Expression) (negated : Bool) (list : List Expression) → is_lawful a ≡ true → list_all is_lawful list ≡ true → is_lawful (roll-Expression (record { at = at; kind = kind.InList a negated list })) ≡ true
in_list at a negated list h k = fold-roll-Expression Bool Bool Bool Bool Bool Bool Bool Bool Bool Bool Bool Bool law.of_kind law.of_join law.of_body law.of_item law.of_table law.of_arm law.of_expression law.of_from law.of_query law.of_select law.of_key law.of_row (record { at = at; kind = kind.InList a negated list }) ∙ ap kind_lawful (sym (kind.rolls-InList a negated list)) ∙ fold-roll-ExpressionKind Bool Bool Bool Bool Bool Bool Bool Bool Bool Bool Bool Bool law.of_kind law.of_join law.of_body law.of_item law.of_table law.of_arm law.of_expression law.of_from law.of_query law.of_select law.of_key law.of_row (ExpressionKind-F.InList a negated list) ∙ both (is_lawful a) (law.all (map is_lawful list)) h (in_fold is_lawful list k)

pub in_query : (at : ℕ) (a : Expression) (negated : Bool) (query : Query) → is_lawful a ≡ true → is_lawful_query query ≡ true → is_lawful (roll-Expression (record { at = at; kind = kind.InQuery a negated query })) ≡ true
in_query at a negated query h k = fold-roll-Expression Bool Bool Bool Bool Bool Bool Bool Bool Bool Bool Bool Bool law.of_kind law.of_join law.of_body law.of_item law.of_table law.of_arm law.of_expression law.of_from law.of_query law.of_select law.of_key law.of_row (record { at = at; kind = kind.InQuery a negated query }) ∙ ap kind_lawful (sym (kind.rolls-InQuery a negated query)) ∙ fold-roll-ExpressionKind Bool Bool Bool Bool Bool Bool Bool Bool Bool Bool Bool Bool law.of_kind law.of_join law.of_body law.of_item law.of_table law.of_arm law.of_expression law.of_from law.of_query law.of_select law.of_key law.of_row (ExpressionKind-F.InQuery a negated query) ∙ both (is_lawful a) (is_lawful_query query) h k

pub like : (at : ℕ) (a : Expression) (negated : Bool) (pattern : Expression) (escape : Option (List ℕ)) → is_lawful a ≡ true → is_lawful pattern ≡ true → is_lawful (roll-Expression (record { at = at; kind = kind.Like a negated pattern escape })) ≡ true
like at a negated pattern escape h k = fold-roll-Expression Bool Bool Bool Bool Bool Bool Bool Bool Bool Bool Bool Bool law.of_kind law.of_join law.of_body law.of_item law.of_table law.of_arm law.of_expression law.of_from law.of_query law.of_select law.of_key law.of_row (record { at = at; kind = kind.Like a negated pattern escape }) ∙ ap kind_lawful (sym (kind.rolls-Like a negated pattern escape)) ∙ fold-roll-ExpressionKind Bool Bool Bool Bool Bool Bool Bool Bool Bool Bool Bool Bool law.of_kind law.of_join law.of_body law.of_item law.of_table law.of_arm law.of_expression law.of_from law.of_query law.of_select law.of_key law.of_row (ExpressionKind-F.Like a negated pattern escape) ∙ both (is_lawful a) (is_lawful pattern) h k

pub exists : (at : ℕ) (query : Query) → is_lawful_query query ≡ true → is_lawful (roll-Expression (record { at = at; kind = kind.Exists query })) ≡ true
exists at query h = fold-roll-Expression Bool Bool Bool Bool Bool Bool Bool Bool Bool Bool Bool Bool law.of_kind law.of_join law.of_body law.of_item law.of_table law.of_arm law.of_expression law.of_from law.of_query law.of_select law.of_key law.of_row (record { at = at; kind = kind.Exists query }) ∙ ap kind_lawful (sym (kind.rolls-Exists query)) ∙ fold-roll-ExpressionKind Bool Bool Bool Bool Bool Bool Bool Bool Bool Bool Bool Bool law.of_kind law.of_join law.of_body law.of_item law.of_table law.of_arm law.of_expression law.of_from law.of_query law.of_select law.of_key law.of_row (ExpressionKind-F.Exists query) ∙ h

pub subquery : (at : ℕ) (query : Query) → is_lawful_query query ≡ true → is_lawful (roll-Expression (record { at = at; kind = kind.Subquery query })) ≡ true
subquery at query h = fold-roll-Expression Bool Bool Bool Bool Bool Bool Bool Bool Bool Bool Bool Bool law.of_kind law.of_join law.of_body law.of_item law.of_table law.of_arm law.of_expression law.of_from law.of_query law.of_select law.of_key law.of_row (record { at = at; kind = kind.Subquery query }) ∙ ap kind_lawful (sym (kind.rolls-Subquery query)) ∙ fold-roll-ExpressionKind Bool Bool Bool Bool Bool Bool Bool Bool Bool Bool Bool Bool law.of_kind law.of_join law.of_body law.of_item law.of_table law.of_arm law.of_expression law.of_from law.of_query law.of_select law.of_key law.of_row (ExpressionKind-F.Subquery query) ∙ h

pub cast : (at : ℕ) (a : Expression) (t : DataType) → is_lawful a ≡ true → law.is_type t ≡ true → is_lawful (roll-Expression (record { at = at; kind = kind.Cast a t })) ≡ true
cast at a t h k = fold-roll-Expression Bool Bool Bool Bool Bool Bool Bool Bool Bool Bool Bool Bool law.of_kind law.of_join law.of_body law.of_item law.of_table law.of_arm law.of_expression law.of_from law.of_query law.of_select law.of_key law.of_row (record { at = at; kind = kind.Cast a t }) ∙ ap kind_lawful (sym (kind.rolls-Cast a t)) ∙ fold-roll-ExpressionKind Bool Bool Bool Bool Bool Bool Bool Bool Bool Bool Bool Bool law.of_kind law.of_join law.of_body law.of_item law.of_table law.of_arm law.of_expression law.of_from law.of_query law.of_select law.of_key law.of_row (ExpressionKind-F.Cast a t) ∙ both (is_lawful a) (law.is_type t) h k

pub case_none : (at : ℕ) (arms : List CaseArm) → list_all arm_lawful arms ≡ true → is_lawful (roll-Expression (record { at = at; kind = kind.Case arms None })) ≡ true
case_none at arms h = fold-roll-Expression Bool Bool Bool Bool Bool Bool Bool Bool Bool Bool Bool Bool law.of_kind law.of_join law.of_body law.of_item law.of_table law.of_arm law.of_expression law.of_from law.of_query law.of_select law.of_key law.of_row (record { at = at; kind = kind.Case arms None }) ∙ ap kind_lawful (sym (kind.rolls-Case arms None)) ∙ fold-roll-ExpressionKind Bool Bool Bool Bool Bool Bool Bool Bool Bool Bool Bool Bool law.of_kind law.of_join law.of_body law.of_item law.of_table law.of_arm law.of_expression law.of_from law.of_query law.of_select law.of_key law.of_row (ExpressionKind-F.Case arms None) ∙ both (law.all (map arm_lawful arms)) true (in_fold arm_lawful arms h) refl

pub case_some : (at : ℕ) (arms : List CaseArm) (e : Expression) → list_all arm_lawful arms ≡ true → is_lawful e ≡ true → is_lawful (roll-Expression (record { at = at; kind = kind.Case arms (Some e) })) ≡ true
case_some at arms e h k = fold-roll-Expression Bool Bool Bool Bool Bool Bool Bool Bool Bool Bool Bool Bool law.of_kind law.of_join law.of_body law.of_item law.of_table law.of_arm law.of_expression law.of_from law.of_query law.of_select law.of_key law.of_row (record { at = at; kind = kind.Case arms (Some e) }) ∙ ap kind_lawful (sym (kind.rolls-Case arms (Some e))) ∙ fold-roll-ExpressionKind Bool Bool Bool Bool Bool Bool Bool Bool Bool Bool Bool Bool law.of_kind law.of_join law.of_body law.of_item law.of_table law.of_arm law.of_expression law.of_from law.of_query law.of_select law.of_key law.of_row (ExpressionKind-F.Case arms (Some e)) ∙ both (law.all (map arm_lawful arms)) (is_lawful e) (in_fold arm_lawful arms h) k

pub call : (at : ℕ) (function : Function) (list : List Expression) → list_all is_lawful list ≡ true → is_lawful (roll-Expression (record { at = at; kind = kind.Call function list })) ≡ true
call at function list k = fold-roll-Expression Bool Bool Bool Bool Bool Bool Bool Bool Bool Bool Bool Bool law.of_kind law.of_join law.of_body law.of_item law.of_table law.of_arm law.of_expression law.of_from law.of_query law.of_select law.of_key law.of_row (record { at = at; kind = kind.Call function list }) ∙ ap kind_lawful (sym (kind.rolls-Call function list)) ∙ fold-roll-ExpressionKind Bool Bool Bool Bool Bool Bool Bool Bool Bool Bool Bool Bool law.of_kind law.of_join law.of_body law.of_item law.of_table law.of_arm law.of_expression law.of_from law.of_query law.of_select law.of_key law.of_row (ExpressionKind-F.Call function list) ∙ in_fold is_lawful list k

pub substring_none : (at : ℕ) (text : Expression) (start : Expression) → is_lawful text ≡ true → is_lawful start ≡ true → is_lawful (roll-Expression (record { at = at; kind = kind.Substring text start None })) ≡ true
substring_none at text start h k = fold-roll-Expression Bool Bool Bool Bool Bool Bool Bool Bool Bool Bool Bool Bool law.of_kind law.of_join law.of_body law.of_item law.of_table law.of_arm law.of_expression law.of_from law.of_query law.of_select law.of_key law.of_row (record { at = at; kind = kind.Substring text start None }) ∙ ap kind_lawful (sym (kind.rolls-Substring text start None)) ∙ fold-roll-ExpressionKind Bool Bool Bool Bool Bool Bool Bool Bool Bool Bool Bool Bool law.of_kind law.of_join law.of_body law.of_item law.of_table law.of_arm law.of_expression law.of_from law.of_query law.of_select law.of_key law.of_row (ExpressionKind-F.Substring text start None) ∙ both (is_lawful text) (is_lawful start && true) h (both (is_lawful start) true k refl)

pub substring_some : (at : ℕ) (text : Expression) (start : Expression) (count : Expression) → is_lawful text ≡ true → is_lawful start ≡ true → is_lawful count ≡ true → is_lawful (roll-Expression (record { at = at; kind = kind.Substring text start (Some count) })) ≡ true
substring_some at text start count h k m = fold-roll-Expression Bool Bool Bool Bool Bool Bool Bool Bool Bool Bool Bool Bool law.of_kind law.of_join law.of_body law.of_item law.of_table law.of_arm law.of_expression law.of_from law.of_query law.of_select law.of_key law.of_row (record { at = at; kind = kind.Substring text start (Some count) }) ∙ ap kind_lawful (sym (kind.rolls-Substring text start (Some count))) ∙ fold-roll-ExpressionKind Bool Bool Bool Bool Bool Bool Bool Bool Bool Bool Bool Bool law.of_kind law.of_join law.of_body law.of_item law.of_table law.of_arm law.of_expression law.of_from law.of_query law.of_select law.of_key law.of_row (ExpressionKind-F.Substring text start (Some count)) ∙ both (is_lawful text) (is_lawful start && is_lawful count) h (both (is_lawful start) (is_lawful count) k m)

pub trim_none : (at : ℕ) (manner : TrimForm) (text : Expression) → is_lawful text ≡ true → is_lawful (roll-Expression (record { at = at; kind = kind.Trim manner None text })) ≡ true
trim_none at manner text h = fold-roll-Expression Bool Bool Bool Bool Bool Bool Bool Bool Bool Bool Bool Bool law.of_kind law.of_join law.of_body law.of_item law.of_table law.of_arm law.of_expression law.of_from law.of_query law.of_select law.of_key law.of_row (record { at = at; kind = kind.Trim manner None text }) ∙ ap kind_lawful (sym (kind.rolls-Trim manner None text)) ∙ fold-roll-ExpressionKind Bool Bool Bool Bool Bool Bool Bool Bool Bool Bool Bool Bool law.of_kind law.of_join law.of_body law.of_item law.of_table law.of_arm law.of_expression law.of_from law.of_query law.of_select law.of_key law.of_row (ExpressionKind-F.Trim manner None text) ∙ h

pub trim_some : (at : ℕ) (manner : TrimForm) (character : Expression) (text : Expression) → is_lawful character ≡ true → is_lawful text ≡ true → is_lawful (roll-Expression (record { at = at; kind = kind.Trim manner (Some character) text })) ≡ true
trim_some at manner character text h k = fold-roll-Expression Bool Bool Bool Bool Bool Bool Bool Bool Bool Bool Bool Bool law.of_kind law.of_join law.of_body law.of_item law.of_table law.of_arm law.of_expression law.of_from law.of_query law.of_select law.of_key law.of_row (record { at = at; kind = kind.Trim manner (Some character) text }) ∙ ap kind_lawful (sym (kind.rolls-Trim manner (Some character) text)) ∙ fold-roll-ExpressionKind Bool Bool Bool Bool Bool Bool Bool Bool Bool Bool Bool Bool law.of_kind law.of_join law.of_body law.of_item law.of_table law.of_arm law.of_expression law.of_from law.of_query law.of_select law.of_key law.of_row (ExpressionKind-F.Trim manner (Some character) text) ∙ both (is_lawful character) (is_lawful text) h k

pub extract : (at : ℕ) (field : DateField) (a : Expression) → is_lawful a ≡ true → is_lawful (roll-Expression (record { at = at; kind = kind.Extract field a })) ≡ true
extract at field a h = fold-roll-Expression Bool Bool Bool Bool Bool Bool Bool Bool Bool Bool Bool Bool law.of_kind law.of_join law.of_body law.of_item law.of_table law.of_arm law.of_expression law.of_from law.of_query law.of_select law.of_key law.of_row (record { at = at; kind = kind.Extract field a }) ∙ ap kind_lawful (sym (kind.rolls-Extract field a)) ∙ fold-roll-ExpressionKind Bool Bool Bool Bool Bool Bool Bool Bool Bool Bool Bool Bool law.of_kind law.of_join law.of_body law.of_item law.of_table law.of_arm law.of_expression law.of_from law.of_query law.of_select law.of_key law.of_row (ExpressionKind-F.Extract field a) ∙ h

pub interval : (at : ℕ) (a : Expression) (sign : Sign) (count : ℕ) (unit : IntervalUnit) → is_lawful a ≡ true → law.is_count count ≡ true → is_lawful (roll-Expression (record { at = at; kind = kind.Interval a sign count unit })) ≡ true
interval at a sign count unit h k = fold-roll-Expression Bool Bool Bool Bool Bool Bool Bool Bool Bool Bool Bool Bool law.of_kind law.of_join law.of_body law.of_item law.of_table law.of_arm law.of_expression law.of_from law.of_query law.of_select law.of_key law.of_row (record { at = at; kind = kind.Interval a sign count unit }) ∙ ap kind_lawful (sym (kind.rolls-Interval a sign count unit)) ∙ fold-roll-ExpressionKind Bool Bool Bool Bool Bool Bool Bool Bool Bool Bool Bool Bool law.of_kind law.of_join law.of_body law.of_item law.of_table law.of_arm law.of_expression law.of_from law.of_query law.of_select law.of_key law.of_row (ExpressionKind-F.Interval a sign count unit) ∙ both (is_lawful a) (law.is_count count) h k

pub count_rows : (at : ℕ) → is_lawful (roll-Expression (record { at = at; kind = kind.CountRows })) ≡ true
count_rows at = fold-roll-Expression Bool Bool Bool Bool Bool Bool Bool Bool Bool Bool Bool Bool law.of_kind law.of_join law.of_body law.of_item law.of_table law.of_arm law.of_expression law.of_from law.of_query law.of_select law.of_key law.of_row (record { at = at; kind = kind.CountRows }) ∙ ap kind_lawful (sym (kind.rolls-CountRows)) ∙ fold-roll-ExpressionKind Bool Bool Bool Bool Bool Bool Bool Bool Bool Bool Bool Bool law.of_kind law.of_join law.of_body law.of_item law.of_table law.of_arm law.of_expression law.of_from law.of_query law.of_select law.of_key law.of_row ExpressionKind-F.CountRows ∙ refl

pub aggregate : (at : ℕ) (function : Aggregate) (distinct : Bool) (a : Expression) → is_lawful a ≡ true → is_lawful (roll-Expression (record { at = at; kind = kind.Aggregate function distinct a })) ≡ true
aggregate at function distinct a h = fold-roll-Expression Bool Bool Bool Bool Bool Bool Bool Bool Bool Bool Bool Bool law.of_kind law.of_join law.of_body law.of_item law.of_table law.of_arm law.of_expression law.of_from law.of_query law.of_select law.of_key law.of_row (record { at = at; kind = kind.Aggregate function distinct a }) ∙ ap kind_lawful (sym (kind.rolls-Aggregate function distinct a)) ∙ fold-roll-ExpressionKind Bool Bool Bool Bool Bool Bool Bool Bool Bool Bool Bool Bool law.of_kind law.of_join law.of_body law.of_item law.of_table law.of_arm law.of_expression law.of_from law.of_query law.of_select law.of_key law.of_row (ExpressionKind-F.Aggregate function distinct a) ∙ h

pub case_of : (at : ℕ) (arms : List CaseArm) (otherwise : Option Expression) → list_all arm_lawful arms ≡ true → if_written is_lawful otherwise ≡ true → is_lawful (roll-Expression (record { at = at; kind = kind.Case arms otherwise })) ≡ true
case_of at arms None h k = case_none at arms h
case_of at arms (Some e) h k = case_some at arms e h k

pub arm : (test value : Expression) → is_lawful test ≡ true → is_lawful value ≡ true → arm_lawful (roll-CaseArm (record { test = test; value = value })) ≡ true
arm test value h k = fold-roll-CaseArm Bool Bool Bool Bool Bool Bool Bool Bool Bool Bool Bool Bool law.of_kind law.of_join law.of_body law.of_item law.of_table law.of_arm law.of_expression law.of_from law.of_query law.of_select law.of_key law.of_row (record { test = test; value = value }) ∙ both (is_lawful test) (is_lawful value) h k

-- ---- queries

pub query : (at : ℕ) (b : QueryBody) (keys : List SortKey) (l : Option Limit) → body_lawful b ≡ true → list_all key_lawful keys ≡ true → if_written law.is_limit l ≡ true
    → is_lawful_query (roll-Query (record { at = at; body = b; order_by = keys; limit = l })) ≡ true
query at b keys l h k m =
    fold-roll-Query Bool Bool Bool Bool Bool Bool Bool Bool Bool Bool Bool Bool law.of_kind law.of_join law.of_body law.of_item law.of_table law.of_arm law.of_expression law.of_from law.of_query law.of_select law.of_key law.of_row (record { at = at; body = b; order_by = keys; limit = l })
    ∙ both (body_lawful b) (law.all (map key_lawful keys) && if_written law.is_limit l) h (both (law.all (map key_lawful keys)) (if_written law.is_limit l) (in_fold key_lawful keys k) m)

pub key : (at : ℕ) (e : Expression) (descending : Bool) → is_lawful e ≡ true → key_lawful (roll-SortKey (record { at = at; value = e; descending = descending })) ≡ true
key at e descending h = fold-roll-SortKey Bool Bool Bool Bool Bool Bool Bool Bool Bool Bool Bool Bool law.of_kind law.of_join law.of_body law.of_item law.of_table law.of_arm law.of_expression law.of_from law.of_query law.of_select law.of_key law.of_row (record { at = at; value = e; descending = descending }) ∙ h

pub row : (values : List Expression) → list_all is_lawful values ≡ true → row_lawful (roll-ValuesRow (record { values = values })) ≡ true
row values h = fold-roll-ValuesRow Bool Bool Bool Bool Bool Bool Bool Bool Bool Bool Bool Bool law.of_kind law.of_join law.of_body law.of_item law.of_table law.of_arm law.of_expression law.of_from law.of_query law.of_select law.of_key law.of_row (record { values = values }) ∙ in_fold is_lawful values h

pub select_body : (s : Select) → select_lawful s ≡ true → body_lawful (body.Select s) ≡ true
select_body s h = ap body_lawful (sym (body.rolls-Select s)) ∙ fold-roll-QueryBody Bool Bool Bool Bool Bool Bool Bool Bool Bool Bool Bool Bool law.of_kind law.of_join law.of_body law.of_item law.of_table law.of_arm law.of_expression law.of_from law.of_query law.of_select law.of_key law.of_row (QueryBody-F.Select s) ∙ h

pub values_body : (rows : List ValuesRow) → list_all row_lawful rows ≡ true → body_lawful (body.Values rows) ≡ true
values_body rows h = ap body_lawful (sym (body.rolls-Values rows)) ∙ fold-roll-QueryBody Bool Bool Bool Bool Bool Bool Bool Bool Bool Bool Bool Bool law.of_kind law.of_join law.of_body law.of_item law.of_table law.of_arm law.of_expression law.of_from law.of_query law.of_select law.of_key law.of_row (QueryBody-F.Values rows) ∙ in_fold row_lawful rows h

pub set_operation : (operator : SetOperator) (a b : QueryBody) → body_lawful a ≡ true → body_lawful b ≡ true → body_lawful (body.SetOperation operator a b) ≡ true
set_operation operator a b h k = ap body_lawful (sym (body.rolls-SetOperation operator a b)) ∙ fold-roll-QueryBody Bool Bool Bool Bool Bool Bool Bool Bool Bool Bool Bool Bool law.of_kind law.of_join law.of_body law.of_item law.of_table law.of_arm law.of_expression law.of_from law.of_query law.of_select law.of_key law.of_row (QueryBody-F.SetOperation operator a b) ∙ both (body_lawful a) (body_lawful b) h k

pub every : (at : ℕ) → item_lawful (shown.Every at) ≡ true
every at = ap item_lawful (sym (shown.rolls-Every at)) ∙ fold-roll-SelectItem Bool Bool Bool Bool Bool Bool Bool Bool Bool Bool Bool Bool law.of_kind law.of_join law.of_body law.of_item law.of_table law.of_arm law.of_expression law.of_from law.of_query law.of_select law.of_key law.of_row (SelectItem-F.Every at)

pub one : (at : ℕ) (e : Expression) (alias : Option Identifier) → is_lawful e ≡ true → if_written is_identifier alias ≡ true → item_lawful (shown.One at e alias) ≡ true
one at e alias h k = ap item_lawful (sym (shown.rolls-One at e alias)) ∙ fold-roll-SelectItem Bool Bool Bool Bool Bool Bool Bool Bool Bool Bool Bool Bool law.of_kind law.of_join law.of_body law.of_item law.of_table law.of_arm law.of_expression law.of_from law.of_query law.of_select law.of_key law.of_row (SelectItem-F.One at e alias) ∙ both (is_lawful e) (if_written is_identifier alias) h k

pub named : (name : Identifier) (alias : Option Identifier) → is_identifier name ≡ true → if_written is_identifier alias ≡ true → table_lawful (table.Named name alias) ≡ true
named name alias h k = ap table_lawful (sym (table.rolls-Named name alias)) ∙ fold-roll-TableReference Bool Bool Bool Bool Bool Bool Bool Bool Bool Bool Bool Bool law.of_kind law.of_join law.of_body law.of_item law.of_table law.of_arm law.of_expression law.of_from law.of_query law.of_select law.of_key law.of_row (TableReference-F.Named name alias) ∙ both (is_identifier name) (if_written is_identifier alias) h k

pub derived : (q : Query) (alias : Identifier) → is_lawful_query q ≡ true → is_identifier alias ≡ true → table_lawful (table.Derived q alias) ≡ true
derived q alias h k = ap table_lawful (sym (table.rolls-Derived q alias)) ∙ fold-roll-TableReference Bool Bool Bool Bool Bool Bool Bool Bool Bool Bool Bool Bool law.of_kind law.of_join law.of_body law.of_item law.of_table law.of_arm law.of_expression law.of_from law.of_query law.of_select law.of_key law.of_row (TableReference-F.Derived q alias) ∙ both (is_lawful_query q) (is_identifier alias) h k

pub inner : (t : TableReference) (on : Expression) → table_lawful t ≡ true → is_lawful on ≡ true → join_lawful (join.Inner t on) ≡ true
inner t on h k = ap join_lawful (sym (join.rolls-Inner t on)) ∙ fold-roll-Join Bool Bool Bool Bool Bool Bool Bool Bool Bool Bool Bool Bool law.of_kind law.of_join law.of_body law.of_item law.of_table law.of_arm law.of_expression law.of_from law.of_query law.of_select law.of_key law.of_row (Join-F.Inner t on) ∙ both (table_lawful t) (is_lawful on) h k

pub outer : (t : TableReference) (on : Expression) → table_lawful t ≡ true → is_lawful on ≡ true → join_lawful (join.Left t on) ≡ true
outer t on h k = ap join_lawful (sym (join.rolls-Left t on)) ∙ fold-roll-Join Bool Bool Bool Bool Bool Bool Bool Bool Bool Bool Bool Bool law.of_kind law.of_join law.of_body law.of_item law.of_table law.of_arm law.of_expression law.of_from law.of_query law.of_select law.of_key law.of_row (Join-F.Left t on) ∙ both (table_lawful t) (is_lawful on) h k

pub cross : (t : TableReference) → table_lawful t ≡ true → join_lawful (join.Cross t) ≡ true
cross t h = ap join_lawful (sym (join.rolls-Cross t)) ∙ fold-roll-Join Bool Bool Bool Bool Bool Bool Bool Bool Bool Bool Bool Bool law.of_kind law.of_join law.of_body law.of_item law.of_table law.of_arm law.of_expression law.of_from law.of_query law.of_select law.of_key law.of_row (Join-F.Cross t) ∙ h

pub from : (t : TableReference) (joins : List Join) → table_lawful t ≡ true → list_all join_lawful joins ≡ true → from_lawful (roll-FromItem (record { table = t; joins = joins })) ≡ true
from t joins h k = fold-roll-FromItem Bool Bool Bool Bool Bool Bool Bool Bool Bool Bool Bool Bool law.of_kind law.of_join law.of_body law.of_item law.of_table law.of_arm law.of_expression law.of_from law.of_query law.of_select law.of_key law.of_row (record { table = t; joins = joins }) ∙ both (table_lawful t) (law.all (map join_lawful joins)) h (in_fold join_lawful joins k)

pub select : (d : Bool) (i : List SelectItem) (f : List FromItem) (w : Option Expression) (g : List Expression) (v : Option Expression)
    → list_all item_lawful i ≡ true → list_all from_lawful f ≡ true → if_written is_lawful w ≡ true → list_all is_lawful g ≡ true → if_written is_lawful v ≡ true
    → select_lawful (roll-Select (record { distinct = d; items = i; from = f; filter = w; group_by = g; having = v })) ≡ true
select d i f None g None hi hf hw hg hv =
    fold-roll-Select Bool Bool Bool Bool Bool Bool Bool Bool Bool Bool Bool Bool law.of_kind law.of_join law.of_body law.of_item law.of_table law.of_arm law.of_expression law.of_from law.of_query law.of_select law.of_key law.of_row (record { distinct = d; items = i; from = f; filter = None; group_by = g; having = None })
    ∙ both (law.all (map item_lawful i)) (law.all (map from_lawful f) && (true && (law.all (map is_lawful g) && true))) (in_fold item_lawful i hi) (both (law.all (map from_lawful f)) (true && (law.all (map is_lawful g) && true)) (in_fold from_lawful f hf) (both (true) (law.all (map is_lawful g) && true) hw (both (law.all (map is_lawful g)) (true) (in_fold is_lawful g hg) hv)))
select d i f None g (Some y) hi hf hw hg hv =
    fold-roll-Select Bool Bool Bool Bool Bool Bool Bool Bool Bool Bool Bool Bool law.of_kind law.of_join law.of_body law.of_item law.of_table law.of_arm law.of_expression law.of_from law.of_query law.of_select law.of_key law.of_row (record { distinct = d; items = i; from = f; filter = None; group_by = g; having = (Some y) })
    ∙ both (law.all (map item_lawful i)) (law.all (map from_lawful f) && (true && (law.all (map is_lawful g) && is_lawful y))) (in_fold item_lawful i hi) (both (law.all (map from_lawful f)) (true && (law.all (map is_lawful g) && is_lawful y)) (in_fold from_lawful f hf) (both (true) (law.all (map is_lawful g) && is_lawful y) hw (both (law.all (map is_lawful g)) (is_lawful y) (in_fold is_lawful g hg) hv)))
select d i f (Some x) g None hi hf hw hg hv =
    fold-roll-Select Bool Bool Bool Bool Bool Bool Bool Bool Bool Bool Bool Bool law.of_kind law.of_join law.of_body law.of_item law.of_table law.of_arm law.of_expression law.of_from law.of_query law.of_select law.of_key law.of_row (record { distinct = d; items = i; from = f; filter = (Some x); group_by = g; having = None })
    ∙ both (law.all (map item_lawful i)) (law.all (map from_lawful f) && (is_lawful x && (law.all (map is_lawful g) && true))) (in_fold item_lawful i hi) (both (law.all (map from_lawful f)) (is_lawful x && (law.all (map is_lawful g) && true)) (in_fold from_lawful f hf) (both (is_lawful x) (law.all (map is_lawful g) && true) hw (both (law.all (map is_lawful g)) (true) (in_fold is_lawful g hg) hv)))
select d i f (Some x) g (Some y) hi hf hw hg hv =
    fold-roll-Select Bool Bool Bool Bool Bool Bool Bool Bool Bool Bool Bool Bool law.of_kind law.of_join law.of_body law.of_item law.of_table law.of_arm law.of_expression law.of_from law.of_query law.of_select law.of_key law.of_row (record { distinct = d; items = i; from = f; filter = (Some x); group_by = g; having = (Some y) })
    ∙ both (law.all (map item_lawful i)) (law.all (map from_lawful f) && (is_lawful x && (law.all (map is_lawful g) && is_lawful y))) (in_fold item_lawful i hi) (both (law.all (map from_lawful f)) (is_lawful x && (law.all (map is_lawful g) && is_lawful y)) (in_fold from_lawful f hf) (both (is_lawful x) (law.all (map is_lawful g) && is_lawful y) hw (both (law.all (map is_lawful g)) (is_lawful y) (in_fold is_lawful g hg) hv)))
