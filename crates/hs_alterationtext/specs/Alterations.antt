-- How the lines of ALTER TABLE are written.
use Rattle.std.specs.Prelude.{◌≡◌, ℕ, Bool, true, false, List, ◌++◌, codes}
use Rattle.hs_plan.specs.declared.definition.Column.{Column}
use Rattle.hs_plan.specs.declared.definition.Constraint.{Constraint}
use Rattle.hs_plan.specs.declared.definition.Rule.{Rule}
use Rattle.hs_plan.specs.declared.definition.Rule.TheVariants as rule
use Rattle.hs_schema.specs.Catalogue.{Things}
use Rattle.hs_nametext.specs.Names.{name_text}
use Rattle.hs_keytext.specs.Owners.{Owner}
use Rattle.hs_tabletext.specs.Conditions.{Wording}
use Rattle.hs_parttext.specs.Lines.{IsLine}
use Rattle.hs_parttext.specs.Named.{IsName, IsWholeName, IsBehind}
use Rattle.hs_tabletext.specs.Constraints.{constraint_text, IsConstraint}
use Rattle.hs_tabletext.specs.Columns.{added_text, IsAdded}
use Rattle.hs_shorttext.specs.Tables.{IsTable, columns_of}
use Rattle.hs_alterationtext.specs.declared.alteration.Alteration.{Alteration}
use Rattle.hs_alterationtext.specs.declared.alteration.Alteration.TheVariants as a

-- ---- behind the table's name

abbrev pub adding : Column → List Constraint → Alteration
adding column constraints = a.AddColumn (record { column = column; constraints = constraints })

abbrev pub alteration_text : Wording → Owner → Alteration → List ℕ
alteration_text wording table (a.AddColumn added) = codes " ADD COLUMN " ++ added_text wording table added.column added.constraints
alteration_text wording table (a.AddConstraint c) = codes " ADD CONSTRAINT " ++ constraint_text wording table c
alteration_text wording table (a.DropConstraint name) = codes " DROP CONSTRAINT " ++ name_text name

abbrev pub is_not_null : Rule → Bool
is_not_null (rule.NotNull column) = true
is_not_null (rule.PrimaryKey columns) = false
is_not_null (rule.Unique columns) = false
is_not_null (rule.Check condition) = false
is_not_null (rule.ForeignKey key) = false
is_not_null (rule.Index columns) = false

-- a constraint that can be added alone: NOT NULL stands behind its column only
pub record IsLone (wording : Wording) (table : Owner) (c : Constraint) : Type 0 where
  pub lawful : IsConstraint wording table c
  pub lone : is_not_null c.rule ≡ false

-- the text is that of this constraint
abbrev pub IsLoneText : Wording → Owner → List ℕ → Constraint → Type 0
IsLoneText wording table = IsLine (IsLone wording table) (constraint_text wording table)

-- the text is that of a constraint's name that is dropped
abbrev pub IsDropped : List ℕ → List ℕ → Type 0
IsDropped = IsBehind (codes " DROP CONSTRAINT ") IsWholeName

abbrev pub IsAlteration : Wording → Owner → Alteration → Type 0
IsAlteration wording table (a.AddColumn added) = IsAdded wording table added
IsAlteration wording table (a.AddConstraint c) = IsLone wording table c
IsAlteration wording table (a.DropConstraint name) = IsName name

-- the text is that of what is done to this table
abbrev pub IsAlterationText : Wording → Owner → List ℕ → Alteration → Type 0
IsAlterationText wording table = IsLine (IsAlteration wording table) (alteration_text wording table)

-- ---- whole lines

-- the catalogue's table of this name, as it stands
abbrev pub owner_in : Things → List ℕ → Owner
owner_in things name = record { name = name; columns = columns_of things name; things = things }

-- what is done to the catalogue's table of this name
pub record IsAltered (wording : Wording) (things : Things) (table text : List ℕ) (alteration : Alteration) : Type 0 where
  pub known : IsTable things table
  pub at : IsAlterationText wording (owner_in things table) text alteration

abbrev pub alter_text : Wording → Things → List ℕ → Alteration → List ℕ
alter_text wording things table alteration = codes "ALTER TABLE " ++ (name_text table ++ alteration_text wording (owner_in things table) alteration)

-- a table of the catalogue, by its name, and what can be done to it
pub record IsAlter (wording : Wording) (things : Things) (p : List ℕ × Alteration) : Type 0 where
  pub named : IsName p.0
  pub known : IsTable things p.0
  pub alteration : IsAlteration wording (owner_in things p.0) p.1

-- the text is that of this table and of what is done to it
abbrev pub IsAlterText : Wording → Things → List ℕ → List ℕ × Alteration → Type 0
IsAlterText wording things = IsLine (IsAlter wording things) (λ p. alter_text wording things p.0 p.1)
