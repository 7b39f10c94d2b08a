-- Lawful parts: each name, number, type and tree that waits on a stack is lawful, and what a step needs of what it reads so that it
-- makes lawful parts of lawful ones.
use Rattle.std.specs.Prelude.{◌≡◌, ℕ, Bool, true, nat_le, List, [], ◌∷◌, Option}
use Rattle.std.specs.List.{list_all}
use Rattle.hs_ast.specs.Lawful as law
use Rattle.hs_ast.specs.Lawful.{is_lawful, is_identifier, if_written}
use Rattle.hs_ast.specs.declared.change.Delete.{Delete}
use Rattle.hs_ast.specs.declared.change.LockedTable.{LockedTable}
use Rattle.hs_ast.specs.declared.change.Update.{Update}
use Rattle.hs_ast.specs.declared.definition.ColumnDefinition.{ColumnDefinition}
use Rattle.hs_ast.specs.declared.definition.CreateTable.{CreateTable}
use Rattle.hs_ast.specs.declared.definition.DataType.{DataType}
use Rattle.hs_ast.specs.declared.definition.DataType.TheVariants as type
use Rattle.hs_ast.specs.declared.definition.ForeignKey.{ForeignKey}
use Rattle.hs_ast.specs.declared.definition.TableConstraint.{TableConstraint}
use Rattle.hs_ast.specs.declared.expression.CaseArm.{CaseArm, fold-CaseArm}
use Rattle.hs_ast.specs.declared.expression.ExpressionKind.{ExpressionKind, fold-ExpressionKind}
use Rattle.hs_ast.specs.declared.literal.Literal.TheVariants as literal
use Rattle.hs_ast.specs.declared.query.FromItem.{FromItem, fold-FromItem}
use Rattle.hs_ast.specs.declared.query.Join.{Join, fold-Join}
use Rattle.hs_ast.specs.declared.query.QueryBody.{QueryBody, fold-QueryBody}
use Rattle.hs_ast.specs.declared.query.Select.{Select, fold-Select}
use Rattle.hs_ast.specs.declared.query.SelectItem.{SelectItem, fold-SelectItem}
use Rattle.hs_ast.specs.declared.query.SortKey.{SortKey, fold-SortKey}
use Rattle.hs_ast.specs.declared.query.TableReference.{TableReference, fold-TableReference}
use Rattle.hs_ast.specs.declared.query.ValuesRow.{ValuesRow, fold-ValuesRow}
use Rattle.hs_ast.specs.declared.statement.Stmt.{Stmt}
use Rattle.hs_ast.specs.declared.word.Identifier.{Identifier}
use Rattle.hs_lexer.specs.declared.token.Token.{Token}
use Rattle.hs_lexer.specs.Content.{name_of, written}
use Rattle.hs_builder.specs.declared.mark.Mark.{Mark}
use Rattle.hs_builder.specs.declared.mark.Mark.TheVariants as mark
use Rattle.hs_builder.specs.declared.mark.LeafMark.{LeafMark}
use Rattle.hs_builder.specs.declared.mark.LeafMark.TheVariants as leaf
use Rattle.hs_builder.specs.declared.mark.ExpressionMark.{ExpressionMark}
use Rattle.hs_builder.specs.declared.mark.ExpressionMark.TheVariants as expression
use Rattle.hs_builder.specs.declared.mark.QueryMark.{QueryMark}
use Rattle.hs_builder.specs.declared.mark.QueryMark.TheVariants as query
use Rattle.hs_builder.specs.declared.part.Built.{Built}
use Rattle.hs_builder.specs.declared.part.BuiltBody.{BuiltBody}
use Rattle.hs_builder.specs.declared.part.BuiltCase.{BuiltCase}
use Rattle.hs_builder.specs.declared.part.BuiltFrom.{BuiltFrom}
use Rattle.hs_builder.specs.declared.part.BuiltList.{BuiltList}
use Rattle.hs_builder.specs.declared.part.BuiltOptional.{BuiltOptional}
use Rattle.hs_builder.specs.declared.part.BuiltQuery.{BuiltQuery}
use Rattle.hs_builder.specs.declared.part.BuiltRows.{BuiltRows}
use Rattle.hs_builder.specs.declared.part.BuiltSelect.{BuiltSelect}
use Rattle.hs_builder.specs.declared.part.BuiltTable.{BuiltTable}
use Rattle.hs_builder.specs.declared.part.BuiltTuple.{BuiltTuple}
use Rattle.hs_builder.specs.declared.part.BuiltTuples.{BuiltTuples}
use Rattle.hs_builder.specs.declared.part.Changes.{Changes}
use Rattle.hs_builder.specs.declared.part.ConstraintHeader.{ConstraintHeader}
use Rattle.hs_builder.specs.declared.part.Definitions.{Definitions}
use Rattle.hs_builder.specs.declared.part.Expressions.{Expressions}
use Rattle.hs_builder.specs.declared.part.InsertTarget.{InsertTarget}
use Rattle.hs_builder.specs.declared.part.Leaves.{Leaves}
use Rattle.hs_builder.specs.declared.part.Parts.{Parts}
use Rattle.hs_builder.specs.declared.part.PlacedLiteral.{PlacedLiteral}
use Rattle.hs_builder.specs.declared.part.PlacedNumber.{PlacedNumber}
use Rattle.hs_builder.specs.declared.part.PlacedText.{PlacedText}
use Rattle.hs_builder.specs.declared.part.Queries.{Queries}
use Rattle.hs_builder.specs.Leaves as leaves
use Rattle.hs_builder.specs.Steps.{Step, stands, deep, wrong, natural}

-- ---- trees within an expression or a query

abbrev pub kind_lawful : ExpressionKind → Bool
kind_lawful = fold-ExpressionKind Bool Bool Bool Bool Bool Bool Bool Bool Bool Bool Bool Bool law.of_kind law.of_join law.of_body law.of_item law.of_table law.of_arm law.of_expression law.of_from law.of_query law.of_select law.of_key law.of_row

abbrev pub arm_lawful : CaseArm → Bool
arm_lawful = fold-CaseArm Bool Bool Bool Bool Bool Bool Bool Bool Bool Bool Bool Bool law.of_kind law.of_join law.of_body law.of_item law.of_table law.of_arm law.of_expression law.of_from law.of_query law.of_select law.of_key law.of_row

abbrev pub join_lawful : Join → Bool
join_lawful = fold-Join Bool Bool Bool Bool Bool Bool Bool Bool Bool Bool Bool Bool law.of_kind law.of_join law.of_body law.of_item law.of_table law.of_arm law.of_expression law.of_from law.of_query law.of_select law.of_key law.of_row

abbrev pub body_lawful : QueryBody → Bool
body_lawful = fold-QueryBody Bool Bool Bool Bool Bool Bool Bool Bool Bool Bool Bool Bool law.of_kind law.of_join law.of_body law.of_item law.of_table law.of_arm law.of_expression law.of_from law.of_query law.of_select law.of_key law.of_row

abbrev pub item_lawful : SelectItem → Bool
item_lawful = fold-SelectItem Bool Bool Bool Bool Bool Bool Bool Bool Bool Bool Bool Bool law.of_kind law.of_join law.of_body law.of_item law.of_table law.of_arm law.of_expression law.of_from law.of_query law.of_select law.of_key law.of_row

abbrev pub table_lawful : TableReference → Bool
table_lawful = fold-TableReference Bool Bool Bool Bool Bool Bool Bool Bool Bool Bool Bool Bool law.of_kind law.of_join law.of_body law.of_item law.of_table law.of_arm law.of_expression law.of_from law.of_query law.of_select law.of_key law.of_row

abbrev pub from_lawful : FromItem → Bool
from_lawful = fold-FromItem Bool Bool Bool Bool Bool Bool Bool Bool Bool Bool Bool Bool law.of_kind law.of_join law.of_body law.of_item law.of_table law.of_arm law.of_expression law.of_from law.of_query law.of_select law.of_key law.of_row

abbrev pub select_lawful : Select → Bool
select_lawful = fold-Select Bool Bool Bool Bool Bool Bool Bool Bool Bool Bool Bool Bool law.of_kind law.of_join law.of_body law.of_item law.of_table law.of_arm law.of_expression law.of_from law.of_query law.of_select law.of_key law.of_row

abbrev pub key_lawful : SortKey → Bool
key_lawful = fold-SortKey Bool Bool Bool Bool Bool Bool Bool Bool Bool Bool Bool Bool law.of_kind law.of_join law.of_body law.of_item law.of_table law.of_arm law.of_expression law.of_from law.of_query law.of_select law.of_key law.of_row

abbrev pub row_lawful : ValuesRow → Bool
row_lawful = fold-ValuesRow Bool Bool Bool Bool Bool Bool Bool Bool Bool Bool Bool Bool law.of_kind law.of_join law.of_body law.of_item law.of_table law.of_arm law.of_expression law.of_from law.of_query law.of_select law.of_key law.of_row

-- ---- parts

abbrev pub LawfulName : Identifier → Type 0
LawfulName name = is_identifier name ≡ true

abbrev pub LawfulNames : List Identifier → Type 0
LawfulNames names = list_all is_identifier names ≡ true

abbrev pub LawfulAlias : Option Identifier → Type 0
LawfulAlias alias = if_written is_identifier alias ≡ true

-- within 38 digits, and no sign before it
abbrev pub LawfulNumber : PlacedNumber → Type 0
LawfulNumber n = law.is_literal (literal.Number n.number) ≡ true

abbrev pub LawfulLiteral : PlacedLiteral → Type 0
LawfulLiteral l = law.is_signed_literal l.literal ≡ true

abbrev pub LawfulType : DataType → Type 0
LawfulType t = law.is_type t ≡ true

abbrev pub LawfulCount : ℕ → Type 0
LawfulCount count = law.is_count count ≡ true

abbrev pub LawfulBuilt : Built → Type 0
LawfulBuilt b = is_lawful b.tree ≡ true

abbrev pub LawfulList : BuiltList → Type 0
LawfulList l = list_all is_lawful l.trees ≡ true

abbrev pub LawfulOptional : BuiltOptional → Type 0
LawfulOptional o = if_written is_lawful o.tree ≡ true

pub record LawfulCase (c : BuiltCase) : Type 0 where
  pub arms : list_all arm_lawful c.arms ≡ true

pub record LawfulSelect (s : BuiltSelect) : Type 0 where
  pub items : list_all item_lawful s.items ≡ true
  pub from : list_all from_lawful s.from ≡ true
  pub group_by : list_all is_lawful s.group_by ≡ true

abbrev pub LawfulTable : BuiltTable → Type 0
LawfulTable t = table_lawful t.table ≡ true

pub record LawfulFrom (f : BuiltFrom) : Type 0 where
  pub table : table_lawful f.table ≡ true
  pub joins : list_all join_lawful f.joins ≡ true

abbrev pub LawfulRows : BuiltRows → Type 0
LawfulRows v = list_all row_lawful v.rows ≡ true

abbrev pub LawfulBody : BuiltBody → Type 0
LawfulBody b = body_lawful b.tree ≡ true

pub record LawfulQuery (q : BuiltQuery) : Type 0 where
  pub body : body_lawful q.body ≡ true
  pub order_by : list_all key_lawful q.order_by ≡ true
  pub limit : if_written law.is_limit q.limit ≡ true

pub record LawfulTarget (t : InsertTarget) : Type 0 where
  pub table : is_identifier t.table ≡ true
  pub columns : list_all is_identifier t.columns ≡ true

abbrev pub LawfulTuple : BuiltTuple → Type 0
LawfulTuple t = list_all law.is_lawful_value t.values ≡ true

abbrev pub LawfulTuples : BuiltTuples → Type 0
LawfulTuples t = list_all (list_all law.is_lawful_value) t.tuples ≡ true

-- an UPDATE and a DELETE without WHERE
pub record LawfulUpdate (u : Update) : Type 0 where
  pub table : is_identifier u.table ≡ true
  pub alias : if_written is_identifier u.alias ≡ true
  pub assignments : list_all law.is_lawful_assignment u.assignments ≡ true

pub record LawfulDelete (d : Delete) : Type 0 where
  pub table : is_identifier d.table ≡ true
  pub alias : if_written is_identifier d.alias ≡ true

abbrev pub LawfulLocks : List LockedTable → Type 0
LawfulLocks locks = list_all law.is_lawful_lock locks ≡ true

pub record LawfulCreate (t : CreateTable) : Type 0 where
  pub name : is_identifier t.name ≡ true
  pub elements : list_all law.is_lawful_element t.elements ≡ true

pub record LawfulColumn (c : ColumnDefinition) : Type 0 where
  pub name : is_identifier c.name ≡ true
  pub data_type : law.is_type c.data_type ≡ true
  pub default : if_written law.is_default c.default ≡ true
  pub constraints : list_all law.is_lawful_column_constraint c.constraints ≡ true

abbrev pub LawfulHeader : ConstraintHeader → Type 0
LawfulHeader h = if_written is_identifier h.name ≡ true

abbrev pub LawfulKey : ForeignKey → Type 0
LawfulKey k = law.is_lawful_key k ≡ true

abbrev pub LawfulConstraint : TableConstraint → Type 0
LawfulConstraint c = law.is_lawful_constraint c ≡ true

abbrev pub LawfulStatement : Stmt → Type 0
LawfulStatement s = law.is_lawful_statement s ≡ true

-- ---- stacks of parts

abbrev pub Every : {A : Type 0} → (A → Type 0) → List A → Type 0
Every P [] = Unit {0}
Every P (x ∷ xs) = P x × Every P xs

pub record LeavesAreLawful (l : Leaves) : Type 0 where
  pub names : Every LawfulName l.names
  pub name_lists : Every LawfulNames l.name_lists
  pub aliases : Every LawfulAlias l.aliases
  pub numbers : Every LawfulNumber l.numbers
  pub literals : Every LawfulLiteral l.literals
  pub types : Every LawfulType l.types

pub record ExpressionsAreLawful (es : Expressions) : Type 0 where
  pub whole : Every LawfulBuilt es.whole
  pub lists : Every LawfulList es.lists
  pub cases : Every LawfulCase es.cases
  pub counts : Every LawfulCount es.counts
  pub optional : Every LawfulOptional es.optional

pub record QueriesAreLawful (qs : Queries) : Type 0 where
  pub selects : Every LawfulSelect qs.selects
  pub tables : Every LawfulTable qs.tables
  pub froms : Every LawfulFrom qs.froms
  pub rows : Every LawfulRows qs.rows
  pub bodies : Every LawfulBody qs.bodies
  pub whole : Every LawfulQuery qs.whole

pub record ChangesAreLawful (cs : Changes) : Type 0 where
  pub targets : Every LawfulTarget cs.targets
  pub tuples : Every LawfulTuple cs.tuples
  pub tuple_lists : Every LawfulTuples cs.tuple_lists
  pub updates : Every LawfulUpdate cs.updates
  pub deletes : Every LawfulDelete cs.deletes
  pub locks : Every LawfulLocks cs.locks

pub record DefinitionsAreLawful (ds : Definitions) : Type 0 where
  pub tables : Every LawfulCreate ds.tables
  pub columns : Every LawfulColumn ds.columns
  pub headers : Every LawfulHeader ds.headers
  pub keys : Every LawfulKey ds.keys
  pub constraints : Every LawfulConstraint ds.constraints

pub record AreLawful (p : Parts) : Type 0 where
  pub leaves : LeavesAreLawful p.leaves
  pub expressions : ExpressionsAreLawful p.expressions
  pub queries : QueriesAreLawful p.queries
  pub changes : ChangesAreLawful p.changes
  pub definitions : DefinitionsAreLawful p.definitions
  pub statements : Every LawfulStatement p.statements

-- ---- what a step needs

abbrev pub TopIs : {A : Type 0} → (A → Type 0) → List A → Type 0
TopIs P [] = Unit {0}
TopIs P (x ∷ xs) = P x

-- of the two topmost ones
abbrev pub TopTwoAre : {A : Type 0} → (A → A → Type 0) → List A → Type 0
TopTwoAre P [] = Unit {0}
TopTwoAre P (x ∷ []) = Unit {0}
TopTwoAre P (x ∷ y ∷ xs) = P x y

abbrev pub IsPrecision : PlacedNumber → Type 0
IsPrecision p = law.is_type (type.Decimal (natural p.number.units) 0) ≡ true

abbrev pub IsScaled : PlacedNumber → PlacedNumber → Type 0
IsScaled s p = law.is_type (type.Decimal (natural p.number.units) (natural s.number.units)) ≡ true

abbrev pub IsLength : PlacedNumber → Type 0
IsLength n = law.is_type (type.Varchar (natural n.number.units)) ≡ true

abbrev pub IsPositive : PlacedNumber → Type 0
IsPositive n = nat_le 1 (natural n.number.units) ≡ true

abbrev pub IsUnsigned : PlacedLiteral → Type 0
IsUnsigned l = law.is_literal l.literal ≡ true

abbrev pub HasFewDigits : PlacedText → Type 0
HasFewDigits t = law.is_count (leaves.units_of t.text) ≡ true

-- the token is a name or a number, and what is taken from a stack is in its range
abbrev pub LeafFits : List ℕ → Token → LeafMark → Leaves → Type 0
LeafFits text token leaf.Name l = law.is_name (name_of text token) ≡ true
LeafFits text token leaf.Number l = law.is_literal (literal.Number (leaves.number_in (written text token))) ≡ true
LeafFits text token (leaf.Type t) l = law.is_type t ≡ true
LeafFits text token leaf.Decimal l = TopIs IsPrecision l.numbers
LeafFits text token leaf.DecimalScale l = TopTwoAre IsScaled l.numbers
LeafFits text token leaf.Varchar l = TopIs IsLength l.numbers
LeafFits text token _ l = Unit {0}

abbrev pub ExpressionFits : ExpressionMark → Leaves → Type 0
ExpressionFits expression.Literal l = TopIs IsUnsigned l.literals
ExpressionFits expression.Digits l = TopIs HasFewDigits l.texts
ExpressionFits _ l = Unit {0}

abbrev pub QueryFits : QueryMark → Leaves → Type 0
QueryFits query.Limit l = TopIs IsPositive l.numbers
QueryFits _ l = Unit {0}

abbrev pub IsFit : List ℕ → Token → Mark → Parts → Type 0
IsFit text token (mark.Leaf m) p = LeafFits text token m p.leaves
IsFit text token (mark.Expression m) p = ExpressionFits m p.leaves
IsFit text token (mark.Query m) p = QueryFits m p.leaves
IsFit text token _ p = Unit {0}

-- what stands behind a step is lawful
abbrev pub IsLawfulBehind : Step Parts → Type 0
IsLawfulBehind (stands p) = AreLawful p
IsLawfulBehind (deep p) = AreLawful p
IsLawfulBehind wrong = Unit {0}
