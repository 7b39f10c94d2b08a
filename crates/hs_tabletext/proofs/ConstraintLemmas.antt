-- Constraints as they are read.
use Rattle.std.proofs.Common.{◌≡◌, ◌≢◌, ℕ, List, ◌∷◌, ◌++◌, refl, sym, ap, subst, ◌∙◌, IsUtf8}
use Rattle.std.specs.Prelude.{codes}
use Rattle.hs_plan.specs.declared.definition.Constraint.{Constraint}
use Rattle.hs_plan.specs.declared.definition.Rule.{Rule}
use Rattle.hs_valuetext.proofs.NumberLemmas.{same_front}
use Rattle.hs_valuetext.proofs.TextLemmas.{Alone}
use Rattle.hs_nametext.specs.Names.{name_text, is_name, IsNameAt}
use Rattle.hs_keytext.specs.Owners.{Owner}
use Rattle.hs_tabletext.specs.Conditions.{Wording}
use Rattle.hs_tabletext.specs.Rules.{rule_text, IsRuleText}
use Rattle.hs_tabletext.specs.Constraints.{IsConstraintText, IsNamed}

-- ---- the rule behind a space

its_rule : (wording : Wording) (owner : Owner) (name text inner : List ℕ) → text ≡ codes " " ++ inner → (c : Constraint) → IsNamed wording owner name text c → IsRuleText wording owner inner c.rule
its_rule wording owner name text inner e c h = record { lawful = h.rule; written = same_front (codes " ") inner (rule_text wording owner c.rule) (sym e ∙ h.written) }

pub named_found : (wording : Wording) (owner : Owner) (name text inner : List ℕ) (c : Constraint) → text ≡ codes " " ++ inner → IsRuleText wording owner inner c.rule × ((r : Rule) → IsRuleText wording owner inner r → r ≡ c.rule) → c.name ≡ name → IsNamed wording owner name text c × ((y : Constraint) → IsNamed wording owner name text y → y ≡ c)
named_found wording owner name text inner c e known is = (
  record { is = is; rule = known.0.lawful; written = e ∙ ap (λ (xs : List ℕ). codes " " ++ xs) known.0.written },
  λ y h.
      let its = known.1 y.rule (its_rule wording owner name text inner e y h) in
      let same : y.name ≡ c.name = h.is ∙ sym is in
      λ i. record { name = same i; rule = its i },
)

pub named_ruleless : (wording : Wording) (owner : Owner) (name text inner : List ℕ) → text ≡ codes " " ++ inner → ((r : Rule) → ¬ (IsRuleText wording owner inner r)) → (y : Constraint) → ¬ (IsNamed wording owner name text y)
named_ruleless wording owner name text inner e none y h = none y.rule (its_rule wording owner name text inner e y h)

pub named_unbegun : (wording : Wording) (owner : Owner) (name text : List ℕ) → ((r : List ℕ) → text ≢ codes " " ++ r) → (y : Constraint) → ¬ (IsNamed wording owner name text y)
named_unbegun wording owner name text other y h = other (rule_text wording owner y.rule) h.written

-- ---- the whole

its_name : (wording : Wording) (owner : Owner) (text : List ℕ) (c : Constraint) → IsConstraintText wording owner text c → IsNameAt text c.name (codes " " ++ rule_text wording owner c.rule)
its_name wording owner text c h = record { lawful = h.lawful.named; utf8 = h.lawful.utf8; written = h.written; ends = refl }

pub constraint_from : (wording : Wording) (owner : Owner) (text name rest : List ℕ) → Alone (IsNameAt text) name rest → (c : Constraint) → IsNamed wording owner name rest c → IsConstraintText wording owner text c
constraint_from wording owner text name rest found c h = record {
  lawful = record { named = ap is_name h.is ∙ found.0.lawful; utf8 = subst IsUtf8 (sym h.is) found.0.utf8; rule = h.rule };
  written = found.0.written ∙ (λ i. name_text (sym h.is i) ++ h.written i);
}

pub from_constraint : (wording : Wording) (owner : Owner) (text name rest : List ℕ) → Alone (IsNameAt text) name rest → (c : Constraint) → IsConstraintText wording owner text c → IsNamed wording owner name rest c
from_constraint wording owner text name rest found c h =
    let same = found.1 c.name (codes " " ++ rule_text wording owner c.rule) (its_name wording owner text c h) in
    record { is = same.0; rule = h.lawful.rule; written = sym same.1 }

pub constraint_nameless : (wording : Wording) (owner : Owner) (text : List ℕ) → ((name rest : List ℕ) → ¬ (IsNameAt text name rest)) → (c : Constraint) → ¬ (IsConstraintText wording owner text c)
constraint_nameless wording owner text none c h = none c.name (codes " " ++ rule_text wording owner c.rule) (its_name wording owner text c h)
