-- How the constraints of a table are written.
use Rattle.std.specs.Prelude.{◌≡◌, ℕ, true, List, ◌∷◌, ◌++◌, codes, IsUtf8}
use Rattle.std.specs.List.{All}
use Rattle.hs_plan.specs.declared.definition.Column.{Column}
use Rattle.hs_plan.specs.declared.definition.Constraint.{Constraint}
use Rattle.hs_nametext.specs.Names.{name_text, is_name}
use Rattle.hs_keytext.specs.Owners.{Owner}
use Rattle.hs_tabletext.specs.Conditions.{Wording}
use Rattle.hs_tabletext.specs.Rules.{rule_text, IsRule, IsRuleText, IsPrintable}
use Rattle.hs_parttext.specs.Lines.{lines_text, IsLine, AreLines}

-- ---- one constraint

-- what its line has behind ADD CONSTRAINT
abbrev pub constraint_text : Wording → Owner → Constraint → List ℕ
constraint_text wording owner c = name_text c.name ++ (32 ∷ rule_text wording owner c.rule)

-- a constraint of this owner that has a line
pub record IsConstraint (wording : Wording) (owner : Owner) (c : Constraint) : Type 0 where
  pub named : is_name c.name ≡ true
  pub utf8 : IsUtf8 c.name
  pub rule : IsRule wording owner c.rule

-- the text is that of this constraint
abbrev pub IsConstraintText : Wording → Owner → List ℕ → Constraint → Type 0
IsConstraintText wording owner = IsLine (IsConstraint wording owner) (constraint_text wording owner)

-- a constraint of this name, and what stands behind the name
pub record IsNamed (wording : Wording) (owner : Owner) (name text : List ℕ) (c : Constraint) : Type 0 where
  pub is : c.name ≡ name
  pub rule : IsRule wording owner c.rule
  pub written : text ≡ codes " " ++ rule_text wording owner c.rule

-- ---- several, behind the line of their table or of their column

-- a line feed, and what each line has before the constraint's name
abbrev pub front_text : List ℕ → List ℕ
front_text table = codes "\nALTER TABLE " ++ (name_text table ++ codes " ADD CONSTRAINT ")

abbrev pub constraint_lines : Wording → Owner → List Constraint → List ℕ
constraint_lines wording owner constraints = lines_text (front_text owner.name) (constraint_text wording owner) constraints

-- the text is that of these constraints
abbrev pub AreConstraintLines : Wording → Owner → List ℕ → List Constraint → Type 0
AreConstraintLines wording owner = AreLines (IsConstraint wording owner) (front_text owner.name) (constraint_text wording owner)

-- the conditions of CHECKs can be written
abbrev pub ArePrintable : Wording → List Column → List Constraint → Type 0
ArePrintable wording columns constraints = All (λ c. IsPrintable wording columns c.rule) constraints
