-- How the rules of constraints are written.
use Rattle.std.specs.Prelude.{◌≡◌, ℕ, List, [], ◌++◌, codes}
use Rattle.hs_plan.specs.declared.definition.Column.{Column}
use Rattle.hs_plan.specs.declared.definition.Rule.{Rule}
use Rattle.hs_plan.specs.declared.definition.Rule.TheVariants as rule
use Rattle.hs_plan.specs.declared.expression.Expr.{Expr}
use Rattle.hs_keytext.specs.ForeignKeys.{foreign_key_text, IsForeignKey}
use Rattle.hs_keytext.specs.Owners.{Owner}
use Rattle.hs_keytext.specs.Places.{place_text, places_text, IsPlace, AreColumns}
use Rattle.hs_tabletext.specs.Conditions.{Wording}

-- ---- one kind

-- columns behind a front, with a closing parenthesis
abbrev pub key_text : List ℕ → List Column → List ℕ → List ℕ
key_text front columns places = front ++ (places_text columns places ++ codes ")")

pub record IsKeyText (front : List ℕ) (columns : List Column) (text : List ℕ) (places : List ℕ) : Type 0 where
  pub lawful : AreColumns columns places
  pub written : text ≡ key_text front columns places

abbrev pub not_null_text : List Column → ℕ → List ℕ
not_null_text columns place = codes "NOT NULL(" ++ (place_text columns place ++ codes ")")

pub record IsNotNullText (columns : List Column) (text : List ℕ) (place : ℕ) : Type 0 where
  pub lawful : IsPlace columns place
  pub written : text ≡ not_null_text columns place

abbrev pub check_text : Wording → List Column → Expr → List ℕ
check_text wording columns condition = codes "CHECK(" ++ (wording.text columns condition ++ codes ")")

pub record IsCheckText (wording : Wording) (columns : List Column) (text : List ℕ) (condition : Expr) : Type 0 where
  pub lawful : wording.Has columns condition
  pub written : text ≡ check_text wording columns condition

-- ---- all of them

-- an index is no constraint, and has no text
abbrev pub rule_text : Wording → Owner → Rule → List ℕ
rule_text wording owner (rule.NotNull place) = not_null_text owner.columns place
rule_text wording owner (rule.PrimaryKey places) = key_text (codes "PRIMARY KEY(") owner.columns places
rule_text wording owner (rule.Unique places) = key_text (codes "UNIQUE(") owner.columns places
rule_text wording owner (rule.Check condition) = check_text wording owner.columns condition
rule_text wording owner (rule.ForeignKey key) = foreign_key_text owner key
rule_text wording owner (rule.Index places) = []

abbrev pub IsRule : Wording → Owner → Rule → Type 0
IsRule wording owner (rule.NotNull place) = IsPlace owner.columns place
IsRule wording owner (rule.PrimaryKey places) = AreColumns owner.columns places
IsRule wording owner (rule.Unique places) = AreColumns owner.columns places
IsRule wording owner (rule.Check condition) = wording.Has owner.columns condition
IsRule wording owner (rule.ForeignKey key) = IsForeignKey owner key
IsRule wording owner (rule.Index places) = ⊥

-- the text is that of this rule of a constraint of this owner
pub record IsRuleText (wording : Wording) (owner : Owner) (text : List ℕ) (r : Rule) : Type 0 where
  pub lawful : IsRule wording owner r
  pub written : text ≡ rule_text wording owner r

-- the condition of a CHECK can be written
abbrev pub IsPrintable : Wording → List Column → Rule → Type 0
IsPrintable wording columns (rule.Check condition) = wording.Has columns condition
IsPrintable wording columns _ = Unit {0}
