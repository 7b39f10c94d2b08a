-- What a test of conditions tells.
use Rattle.std.specs.Prelude.{List}
use Rattle.hs_logged.specs.Entered.{Decides}
use Rattle.hs_plan.specs.declared.definition.Column.{Column}
use Rattle.hs_plan.specs.declared.expression.Expr.{Expr}
use Rattle.hs_tabletext.specs.Conditions.{Wording}
use Rattle.hs_texttest.specs.Definitions.{ConditionTest}

-- it tells which conditions over a table's columns have a text
abbrev pub TestsConditions : Wording → ConditionTest → Type 0
TestsConditions wording test = (columns : List Column) (condition : Expr) → Decides (wording.Has columns condition) (test columns condition)
