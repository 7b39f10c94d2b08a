-- Rules as they are read. Those of two kinds have other first bytes.
use Rattle.std.proofs.Common.{◌≡◌, ℕ, List, refl, ap}
use Rattle.std.specs.Prelude.{codes}
use Rattle.hs_plan.specs.declared.definition.ForeignKey.{ForeignKey}
use Rattle.hs_plan.specs.declared.definition.Rule.{Rule}
use Rattle.hs_plan.specs.declared.definition.Rule.TheVariants as rule
use Rattle.hs_plan.specs.declared.expression.Expr.{Expr}
use Rattle.hs_keytext.specs.ForeignKeys.{IsForeignKeyText}
use Rattle.hs_keytext.specs.Owners.{Owner}
use Rattle.hs_tabletext.specs.Conditions.{Wording}
use Rattle.hs_tabletext.specs.Rules.{IsNotNullText, IsKeyText, IsCheckText, IsRuleText}
use Rattle.hs_parttext.proofs.Known.{apart}

pub not_null_rule : (wording : Wording) (owner : Owner) (text : List ℕ) (place : ℕ) → IsNotNullText owner.columns text place × ((q : ℕ) → IsNotNullText owner.columns text q → q ≡ place) → IsRuleText wording owner text (rule.NotNull place) × ((r : Rule) → IsRuleText wording owner text r → r ≡ rule.NotNull place)
not_null_rule wording owner text place known = (record { lawful = known.0.lawful; written = known.0.written }, only)
  where
    only : (r : Rule) → IsRuleText wording owner text r → r ≡ rule.NotNull place
    only (rule.NotNull q) h = ap rule.NotNull (known.1 q (record { lawful = h.lawful; written = h.written }))
    only (rule.PrimaryKey qs) h = absurd (apart 78 80 _ _ text refl known.0.written h.written)
    only (rule.Unique qs) h = absurd (apart 78 85 _ _ text refl known.0.written h.written)
    only (rule.Check e) h = absurd (apart 78 67 _ _ text refl known.0.written h.written)
    only (rule.ForeignKey key) h = absurd (apart 78 70 _ _ text refl known.0.written h.written)
    only (rule.Index qs) h = absurd h.lawful

pub primary_rule : (wording : Wording) (owner : Owner) (text : List ℕ) (places : List ℕ) → IsKeyText (codes "PRIMARY KEY(") owner.columns text places × ((q : List ℕ) → IsKeyText (codes "PRIMARY KEY(") owner.columns text q → q ≡ places) → IsRuleText wording owner text (rule.PrimaryKey places) × ((r : Rule) → IsRuleText wording owner text r → r ≡ rule.PrimaryKey places)
primary_rule wording owner text places known = (record { lawful = known.0.lawful; written = known.0.written }, only)
  where
    only : (r : Rule) → IsRuleText wording owner text r → r ≡ rule.PrimaryKey places
    only (rule.NotNull q) h = absurd (apart 80 78 _ _ text refl known.0.written h.written)
    only (rule.PrimaryKey qs) h = ap rule.PrimaryKey (known.1 qs (record { lawful = h.lawful; written = h.written }))
    only (rule.Unique qs) h = absurd (apart 80 85 _ _ text refl known.0.written h.written)
    only (rule.Check e) h = absurd (apart 80 67 _ _ text refl known.0.written h.written)
    only (rule.ForeignKey key) h = absurd (apart 80 70 _ _ text refl known.0.written h.written)
    only (rule.Index qs) h = absurd h.lawful

pub unique_rule : (wording : Wording) (owner : Owner) (text : List ℕ) (places : List ℕ) → IsKeyText (codes "UNIQUE(") owner.columns text places × ((q : List ℕ) → IsKeyText (codes "UNIQUE(") owner.columns text q → q ≡ places) → IsRuleText wording owner text (rule.Unique places) × ((r : Rule) → IsRuleText wording owner text r → r ≡ rule.Unique places)
unique_rule wording owner text places known = (record { lawful = known.0.lawful; written = known.0.written }, only)
  where
    only : (r : Rule) → IsRuleText wording owner text r → r ≡ rule.Unique places
    only (rule.NotNull q) h = absurd (apart 85 78 _ _ text refl known.0.written h.written)
    only (rule.PrimaryKey qs) h = absurd (apart 85 80 _ _ text refl known.0.written h.written)
    only (rule.Unique qs) h = ap rule.Unique (known.1 qs (record { lawful = h.lawful; written = h.written }))
    only (rule.Check e) h = absurd (apart 85 67 _ _ text refl known.0.written h.written)
    only (rule.ForeignKey key) h = absurd (apart 85 70 _ _ text refl known.0.written h.written)
    only (rule.Index qs) h = absurd h.lawful

pub check_rule : (wording : Wording) (owner : Owner) (text : List ℕ) (e : Expr) → IsCheckText wording owner.columns text e × ((q : Expr) → IsCheckText wording owner.columns text q → q ≡ e) → IsRuleText wording owner text (rule.Check e) × ((r : Rule) → IsRuleText wording owner text r → r ≡ rule.Check e)
check_rule wording owner text e known = (record { lawful = known.0.lawful; written = known.0.written }, only)
  where
    only : (r : Rule) → IsRuleText wording owner text r → r ≡ rule.Check e
    only (rule.NotNull q) h = absurd (apart 67 78 _ _ text refl known.0.written h.written)
    only (rule.PrimaryKey qs) h = absurd (apart 67 80 _ _ text refl known.0.written h.written)
    only (rule.Unique qs) h = absurd (apart 67 85 _ _ text refl known.0.written h.written)
    only (rule.Check q) h = ap rule.Check (known.1 q (record { lawful = h.lawful; written = h.written }))
    only (rule.ForeignKey key) h = absurd (apart 67 70 _ _ text refl known.0.written h.written)
    only (rule.Index qs) h = absurd h.lawful

pub foreign_rule : (wording : Wording) (owner : Owner) (text : List ℕ) (key : ForeignKey) → IsForeignKeyText owner text key × ((q : ForeignKey) → IsForeignKeyText owner text q → q ≡ key) → IsRuleText wording owner text (rule.ForeignKey key) × ((r : Rule) → IsRuleText wording owner text r → r ≡ rule.ForeignKey key)
foreign_rule wording owner text key known = (record { lawful = known.0.lawful; written = known.0.written }, only)
  where
    only : (r : Rule) → IsRuleText wording owner text r → r ≡ rule.ForeignKey key
    only (rule.NotNull q) h = absurd (apart 70 78 _ _ text refl known.0.written h.written)
    only (rule.PrimaryKey qs) h = absurd (apart 70 80 _ _ text refl known.0.written h.written)
    only (rule.Unique qs) h = absurd (apart 70 85 _ _ text refl known.0.written h.written)
    only (rule.Check e) h = absurd (apart 70 67 _ _ text refl known.0.written h.written)
    only (rule.ForeignKey q) h = ap rule.ForeignKey (known.1 q (record { lawful = h.lawful; written = h.written }))
    only (rule.Index qs) h = absurd h.lawful

pub rule_none : (wording : Wording) (owner : Owner) (text : List ℕ) → ((q : ℕ) → ¬ (IsNotNullText owner.columns text q)) → ((q : List ℕ) → ¬ (IsKeyText (codes "PRIMARY KEY(") owner.columns text q)) → ((q : List ℕ) → ¬ (IsKeyText (codes "UNIQUE(") owner.columns text q)) → ((e : Expr) → ¬ (IsCheckText wording owner.columns text e)) → ((key : ForeignKey) → ¬ (IsForeignKeyText owner text key)) → (r : Rule) → ¬ (IsRuleText wording owner text r)
rule_none wording owner text null primary unique check foreign (rule.NotNull q) h = null q (record { lawful = h.lawful; written = h.written })
rule_none wording owner text null primary unique check foreign (rule.PrimaryKey qs) h = primary qs (record { lawful = h.lawful; written = h.written })
rule_none wording owner text null primary unique check foreign (rule.Unique qs) h = unique qs (record { lawful = h.lawful; written = h.written })
rule_none wording owner text null primary unique check foreign (rule.Check e) h = check e (record { lawful = h.lawful; written = h.written })
rule_none wording owner text null primary unique check foreign (rule.ForeignKey key) h = foreign key (record { lawful = h.lawful; written = h.written })
rule_none wording owner text null primary unique check foreign (rule.Index qs) h = h.lawful
