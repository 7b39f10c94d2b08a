-- What the parts of a query give, the rows around them being still open.
use Rattle.std.specs.Prelude.{ℕ, Bool, List, Result}
use Rattle.hs_plan.specs.declared.expression.Expr.TheOpen.{Join-F, Key-F, QueryBody-F, Source-F, FromItem-F, Query-F, Select-F, SortKey-F, ValuesRow-F}
use Rattle.hs_values.specs.declared.fault.EvalFault.{EvalFault}
use Rattle.hs_values.specs.declared.value.Value.{Value}
use Rattle.hs_expression.specs.Numbers.{Outcome}
use Rattle.hs_expression.specs.Expression.{Arm, Listed}
use Rattle.hs_expression.specs.Surroundings.{Answered, Rows, Valued}

-- a row that a body gives, and the rows over which the keys of ORDER BY are evaluated for it
pub record Line : Type 0 where
  pub row : List Value
  pub around : Rows

-- what a body gives, in the rows of the SELECTs around it
abbrev pub Bodied : Type 0
Bodied = Rows → Result (List Line) EvalFault

-- what a key of ORDER BY gives for a line
abbrev pub Keyed : Type 0
Keyed = Line → Outcome

pub record SortBy : Type 0 where
  pub key : Keyed
  pub descending : Bool

-- the rows of a table or of a query in FROM, and how many columns they have
pub record Sourced : Type 0 where
  pub width : ℕ
  pub rows : Answered

-- what a join makes of the rows on its left, in the rows of the SELECTs around it
abbrev pub Joining : Type 0
Joining = Rows → Rows → Result Rows EvalFault

-- ---- one layer, with what its parts give in their places

abbrev pub JoinLayer : Type 0
JoinLayer = Join-F Valued Joining Keyed Bodied Sourced Arm Listed Answered Answered Bodied SortBy (List Valued)

abbrev pub KeyLayer : Type 0
KeyLayer = Key-F Valued Joining Keyed Bodied Sourced Arm Listed Answered Answered Bodied SortBy (List Valued)

abbrev pub BodyLayer : Type 0
BodyLayer = QueryBody-F Valued Joining Keyed Bodied Sourced Arm Listed Answered Answered Bodied SortBy (List Valued)

abbrev pub SourceLayer : Type 0
SourceLayer = Source-F Valued Joining Keyed Bodied Sourced Arm Listed Answered Answered Bodied SortBy (List Valued)

abbrev pub ElementLayer : Type 0
ElementLayer = FromItem-F Valued Joining Keyed Bodied Sourced Arm Listed Answered Answered Bodied SortBy (List Valued)

abbrev pub QueryLayer : Type 0
QueryLayer = Query-F Valued Joining Keyed Bodied Sourced Arm Listed Answered Answered Bodied SortBy (List Valued)

abbrev pub SelectLayer : Type 0
SelectLayer = Select-F Valued Joining Keyed Bodied Sourced Arm Listed Answered Answered Bodied SortBy (List Valued)

abbrev pub SortKeyLayer : Type 0
SortKeyLayer = SortKey-F Valued Joining Keyed Bodied Sourced Arm Listed Answered Answered Bodied SortBy (List Valued)

abbrev pub RowLayer : Type 0
RowLayer = ValuesRow-F Valued Joining Keyed Bodied Sourced Arm Listed Answered Answered Bodied SortBy (List Valued)
