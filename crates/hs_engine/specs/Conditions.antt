-- Whether a condition of CHECK has a text, as a test.
use Rattle.std.specs.Prelude.{ℕ, Bool, not, ◌&&◌, List}
use Rattle.hs_alike.specs.Alike.{gives}
use Rattle.hs_conditions.specs.Reading.{condition_of}
use Rattle.hs_conditions.specs.Texts.{is_short}
use Rattle.hs_conditiontext.specs.Conditions.{condition_text}
use Rattle.hs_plan.specs.declared.definition.Column.{Column}
use Rattle.hs_plan.specs.declared.expression.Expr.{Expr}
use Rattle.hs_valuetext.specs.Texts.{has_control}

-- a text without control characters, of less than 2^31 bytes
abbrev pub may_stand : List ℕ → Bool
may_stand text = not (has_control text) && is_short text

-- a plain condition, of which what is written over these columns may stand, and is read as this very condition
abbrev pub has_condition : List Column → Expr → Bool
has_condition columns e = may_stand (condition_text columns e) && gives (condition_of columns (condition_text columns e)) e
