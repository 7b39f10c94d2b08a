-- That the test of conditions tells which have a text.
use Rattle.std.proofs.Common.{ℕ, not, List}
use Rattle.std.specs.Bool.{Decides}
use Rattle.std.proofs.lemmas.Bool.Decides.{Decides-and}
use Rattle.hs_alike.specs.Alike.{gives}
use Rattle.hs_alike.proofs.Alike.{gives_told}
use Rattle.hs_conditions.specs.Reading.{condition_of}
use Rattle.hs_conditions.specs.Texts.{checks, is_short, HasText, MayStand}
use Rattle.hs_conditiontext.specs.Conditions.{condition_text}
use Rattle.hs_logged.specs.Over.{TestsTexts}
use Rattle.hs_plan.specs.declared.definition.Column.{Column}
use Rattle.hs_plan.specs.declared.expression.Expr.{Expr}
use Rattle.hs_engine.specs.Conditions.{has_condition, may_stand}
use Rattle.hs_texttest.specs.Commits.{has_text}
use Rattle.hs_texttest.specs.Told.{TestsConditions}
use Rattle.hs_texttest.proofs.Commits.{of_told, texts_tested}
use Rattle.hs_texttest.proofs.Deciding.{decided, denied, itself}
use Rattle.hs_valuetext.specs.Texts.{has_control}

may_stand_told : (text : List ℕ) → Decides (may_stand text) (MayStand text)
may_stand_told text =
    decided (MayStand text) (may_stand text) (Decides-and (not (has_control text)) (is_short text) (denied (has_control text)) (itself (is_short text)))
    (λ h. record { clean = h.0; short = h.1 })
    (λ h. (h.clean, h.short))

condition_told : (columns : List Column) (e : Expr) → Decides (has_condition columns e) (HasText columns e)
condition_told columns e =
    let text = condition_text columns e in
    let found = condition_of columns text in
    decided (HasText columns e) (has_condition columns e) (Decides-and (may_stand text) (gives found e) (may_stand_told text) (gives_told found e))
    (λ h. record { plain = h.1.0; stands = h.0; read = h.1.1 })
    (λ h. (h.stands, (h.plain, h.read)))

pub conditions_tested : TestsConditions checks has_condition
conditions_tested columns e = of_told (HasText columns e) (has_condition columns e) (condition_told columns e)

pub commits_tested : TestsTexts checks (has_text checks has_condition)
commits_tested = texts_tested checks has_condition conditions_tested
