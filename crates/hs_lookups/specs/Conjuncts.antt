-- What a condition and its conjuncts ask of a row.
use Rattle.std.specs.Prelude.{◌≡◌, ℕ, Bool, false, List, length, Ok}
use Rattle.hs_ast.specs.declared.expression.BinaryOperator.TheVariants as o
use Rattle.hs_plan.specs.declared.expression.Expr.{Expr}
use Rattle.hs_plan.specs.declared.expression.Expr.TheVariants as e
use Rattle.hs_plan.specs.declared.operator.Binary.TheVariants as b
use Rattle.hs_plan.specs.declared.operator.Unary.TheVariants as u
use Rattle.hs_values.specs.declared.value.Value.{Value}
use Rattle.hs_changes.specs.Settings.{Maps}
use Rattle.hs_rel.specs.Selection.{Verdict, is_true}
use Rattle.hs_expression.specs.Surroundings.{Rows, Surroundings}
use Rattle.hs_answer.specs.Answer.{value_in}
use Rattle.hs_answer.specs.Places.{value_over}
use Rattle.hs_lookups.specs.Asked.{Asks, IsPassedOver}
use Rattle.hs_lookups.specs.declared.equalities.Equalities.{Equalities}

-- a column of the row itself, a minus, an equality, and AND
abbrev pub own : ℕ → Expr
own at = e.Column 0 at

abbrev pub negated : Expr → Expr
negated a = e.Unary u.Minus a

abbrev pub equality : Expr → Expr → Expr
equality a c = e.Binary (b.Operator o.Equal) a c

abbrev pub both : Expr → Expr → Expr
both a c = e.Binary (b.Operator o.And) a c

-- a condition is TRUE only for rows that pass a test
pub record Needs (condition : Expr) (test : List Value → Bool) : Type 0 where
  pub not_true : (tables : Maps) (outer : Rows) (row : List Value) → test row ≡ false → is_true (value_over (value_in tables condition) outer row) ≡ false

-- an expression has this value, wherever it stands
pub record Gives (e : Expr) (value : Value) : Type 0 where
  pub is : (tables : Maps) (s : Surroundings) → value_in tables e s ≡ Ok value

-- one side of an equality is a column, and the other has this value
pub record IsEquality (column other : Expr) (at : ℕ) (value : Value) : Type 0 where
  pub column_is : column ≡ own at
  pub value_is : Gives other value

-- each row for which a conjunct isn't TRUE is passed over
pub record HasConjunct (verdict conjunct : Verdict) : Type 0 where
  pub passed : (row : List Value) → is_true (conjunct row) ≡ false → IsPassedOver (verdict row)

-- each column has its value in every row that isn't passed over
pub record AreAsked (verdict : Verdict) (all : Equalities) : Type 0 where
  pub paired : length all.columns.items ≡ length all.values
  pub asked : Asks verdict all.columns.items all.values

-- they are asked after a conjunct was taken in as they were before
pub record TakesIn (condition : Expr) (old new : Equalities) : Type 0 where
  pub asked : (verdict : Verdict) (tables : Maps) (outer : Rows) → HasConjunct verdict (value_over (value_in tables condition) outer) → AreAsked verdict old → AreAsked verdict new
