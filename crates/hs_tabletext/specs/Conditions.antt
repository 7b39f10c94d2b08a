-- The conditions of CHECK, as they are written.
use Rattle.std.specs.Prelude.{◌≡◌, ℕ, List}
use Rattle.hs_plan.specs.declared.definition.Column.{Column}
use Rattle.hs_plan.specs.declared.expression.Expr.{Expr}

-- which conditions over a table's columns have a text, and what it is
pub record Wording : Type 1 where
  pub text : List Column → Expr → List ℕ
  pub Has : List Column → Expr → Type 0

-- the text is that of this condition over these columns
pub record IsConditionText (wording : Wording) (columns : List Column) (text : List ℕ) (condition : Expr) : Type 0 where
  pub lawful : wording.Has columns condition
  pub written : text ≡ wording.text columns condition
