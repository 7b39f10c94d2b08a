-- What is known of each part of an expression or a query, its own surroundings being still open.
use Rattle.std.specs.Prelude.{ℕ, Bool, List, Option}
use Rattle.hs_ast.specs.declared.expression.ColumnName.{ColumnName}
use Rattle.hs_ast.specs.declared.expression.ExpressionKind.TheOpen.{ExpressionKind-F, Join-F, QueryBody-F, SelectItem-F, TableReference-F, CaseArm-F, Expression-F, FromItem-F, Query-F, Select-F, SortKey-F, ValuesRow-F}
use Rattle.hs_ast.specs.declared.literal.Literal.{Literal}
use Rattle.hs_ast.specs.declared.word.Identifier.{Identifier}
use Rattle.hs_plan.specs.declared.fault.PlacedFault.{PlacedFault}
use Rattle.hs_plan.specs.declared.query.Join.{Join}
use Rattle.hs_plan.specs.declared.query.Query.{Query}
use Rattle.hs_plan.specs.declared.query.QueryBody.{QueryBody}
use Rattle.hs_plan.specs.declared.query.Source.{Source}
use Rattle.hs_scope.specs.declared.column.OutputColumn.{OutputColumn}
use Rattle.hs_typed.specs.declared.typed.Typed.{Typed}
use Rattle.hs_meaning.specs.declared.placed.PlacedColumn.{PlacedColumn}
use Rattle.hs_meaning.specs.declared.placed.Shown.{Shown}
use Rattle.hs_meaning.specs.Parts.{Meaning}
use Rattle.hs_meaning.specs.Surroundings.{Surroundings}

-- ---- expressions

-- an expression at whichever place
pub record Form : Type 0 where
  -- the literal that it is, or the column
  pub literal : Option Literal
  pub column : Option ColumnName
  -- whether an aggregate stands in it, outside of its queries
  pub aggregate : Bool
  pub means : ℕ → Surroundings → Meaning Typed

pub record Part : Type 0 where
  pub at : ℕ
  pub form : Form

abbrev pub means : Part → Surroundings → Meaning Typed
means e s = e.form.means e.at s

pub record ArmPart : Type 0 where
  pub test : Part
  pub value : Part

-- ---- queries

pub record QueryMeaning : Type 0 where
  pub faults : List PlacedFault
  pub columns : List PlacedColumn
  pub plan : Option Query

pub record BodyMeaning : Type 0 where
  pub faults : List PlacedFault
  pub columns : List PlacedColumn
  pub plan : Option QueryBody
  -- whether a key of ORDER BY may be an expression, and what surrounds it
  pub plain : Bool
  pub keys : Surroundings

abbrev pub QueryPart : Type 0
QueryPart = Surroundings → QueryMeaning

abbrev pub BodyPart : Type 0
BodyPart = Surroundings → BodyMeaning

-- ---- FROM

pub record TableMeaning : Type 0 where
  pub faults : List PlacedFault
  pub columns : List OutputColumn
  pub source : Option Source

-- a table under the name that it has in its FROM
pub record TablePart : Type 0 where
  pub name : Identifier
  pub table : Surroundings → TableMeaning

-- a table that is joined, and the join to it in the surroundings of ON
pub record JoinPart : Type 0 where
  pub table : TablePart
  pub join : Surroundings → Option Source → Meaning Join

pub record ElementPart : Type 0 where
  pub table : TablePart
  pub joins : List JoinPart

-- ---- items, keys and rows

pub record ItemMeaning : Type 0 where
  pub faults : List PlacedFault
  pub shown : List Shown

pub record ItemPart : Type 0 where
  pub aggregate : Bool
  pub item : Surroundings → ItemMeaning

pub record KeyPart : Type 0 where
  pub at : ℕ
  pub value : Part
  pub descending : Bool

abbrev pub RowPart : Type 0
RowPart = List Part

-- ---- one layer, with what is known of its parts in their places

abbrev pub FormLayer : Type 0
FormLayer = ExpressionKind-F Form JoinPart BodyPart ItemPart TablePart ArmPart Part ElementPart QueryPart BodyPart KeyPart RowPart

abbrev pub JoinLayer : Type 0
JoinLayer = Join-F Form JoinPart BodyPart ItemPart TablePart ArmPart Part ElementPart QueryPart BodyPart KeyPart RowPart

abbrev pub BodyLayer : Type 0
BodyLayer = QueryBody-F Form JoinPart BodyPart ItemPart TablePart ArmPart Part ElementPart QueryPart BodyPart KeyPart RowPart

abbrev pub ItemLayer : Type 0
ItemLayer = SelectItem-F Form JoinPart BodyPart ItemPart TablePart ArmPart Part ElementPart QueryPart BodyPart KeyPart RowPart

abbrev pub TableLayer : Type 0
TableLayer = TableReference-F Form JoinPart BodyPart ItemPart TablePart ArmPart Part ElementPart QueryPart BodyPart KeyPart RowPart

abbrev pub ArmLayer : Type 0
ArmLayer = CaseArm-F Form JoinPart BodyPart ItemPart TablePart ArmPart Part ElementPart QueryPart BodyPart KeyPart RowPart

abbrev pub ExpressionLayer : Type 0
ExpressionLayer = Expression-F Form JoinPart BodyPart ItemPart TablePart ArmPart Part ElementPart QueryPart BodyPart KeyPart RowPart

abbrev pub ElementLayer : Type 0
ElementLayer = FromItem-F Form JoinPart BodyPart ItemPart TablePart ArmPart Part ElementPart QueryPart BodyPart KeyPart RowPart

abbrev pub QueryLayer : Type 0
QueryLayer = Query-F Form JoinPart BodyPart ItemPart TablePart ArmPart Part ElementPart QueryPart BodyPart KeyPart RowPart

abbrev pub SelectLayer : Type 0
SelectLayer = Select-F Form JoinPart BodyPart ItemPart TablePart ArmPart Part ElementPart QueryPart BodyPart KeyPart RowPart

abbrev pub KeyLayer : Type 0
KeyLayer = SortKey-F Form JoinPart BodyPart ItemPart TablePart ArmPart Part ElementPart QueryPart BodyPart KeyPart RowPart

abbrev pub RowLayer : Type 0
RowLayer = ValuesRow-F Form JoinPart BodyPart ItemPart TablePart ArmPart Part ElementPart QueryPart BodyPart KeyPart RowPart
