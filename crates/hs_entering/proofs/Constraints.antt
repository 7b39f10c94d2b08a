-- Constraints whose conditions have texts.
use Rattle.std.proofs.Common.{◌≡◌, ℕ, ◌+◌, ◌<◌, Bool, true, false, List, length, get_or, take, sym, subst}
use Rattle.std.proofs.lemmas.List.Elements.{All-get_or, All-more}
use Rattle.hs_tabletext.specs.Constraints.{ArePrintable}
use Rattle.hs_logged.specs.Entered.{Decides}
use Rattle.hs_plan.specs.declared.definition.Column.{Column}
use Rattle.hs_plan.specs.declared.definition.Constraint.{Constraint}
use Rattle.hs_tabletext.specs.Conditions.{Wording}
use Rattle.hs_tabletext.specs.Rules.{IsPrintable}

module _ (wording : Wording) (columns : List Column) (constraints : List Constraint) (index : ℕ) (one : Constraint) (within : index < length constraints) (is : one ≡ get_or constraints index one) where
  abbrev Has : Constraint → Type 0
  Has c = IsPrintable wording columns c.rule

  pub one_without : ¬ (IsPrintable wording columns one.rule) → ¬ (ArePrintable wording columns constraints)
  one_without lacks = λ all. lacks (subst Has (sym is) (All-get_or Has constraints index one within all))

  pub one_more : ArePrintable wording columns (take index constraints) → IsPrintable wording columns one.rule → ArePrintable wording columns (take (index + 1) constraints)
  one_more all h = All-more Has constraints index one within all (subst Has is h)

-- what holds anyway holds beside what is told
pub beside : (P Q : Type 0) (b : Bool) → P → Decides Q b → Decides (P × Q) b
beside P Q true p told = (p, told)
beside P Q false p told = λ both. told both.1
