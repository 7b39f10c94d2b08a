-- The conditions that have a text in a log, and the texts.
use Rattle.std.specs.Prelude.{◌≡◌, ◌^◌, ℕ, nat_lt, Bool, true, false, List, length, Some}
use Rattle.hs_conditiontext.specs.Conditions.{condition_text}
use Rattle.hs_plan.specs.declared.definition.Column.{Column}
use Rattle.hs_plan.specs.declared.expression.Expr.{Expr}
use Rattle.hs_tabletext.specs.Conditions.{Wording}
use Rattle.hs_sameness.specs.Plain.{is_plain}
use Rattle.hs_valuetext.specs.Texts.{has_control}
use Rattle.hs_conditions.specs.Reading.{condition_of}

-- it has less than 2^31 bytes
abbrev pub is_short : List ℕ → Bool
is_short text = nat_lt (length text) (2 ^ 31)

pub record MayStand (text : List ℕ) : Type 0 where
  pub clean : has_control text ≡ false
  pub short : is_short text ≡ true

-- It has no query and no aggregate, and what is written of it is read as this very condition.
pub record HasText (columns : List Column) (e : Expr) : Type 0 where
  pub plain : is_plain e ≡ true
  pub stands : MayStand (condition_text columns e)
  pub read : condition_of columns (condition_text columns e) ≡ Some e

abbrev pub checks : Wording
checks = record { text = condition_text; Has = HasText }
