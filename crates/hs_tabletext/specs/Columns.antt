-- How columns are written where they are added to a table.
use Rattle.std.specs.Prelude.{◌≡◌, ℕ, Bool, true, false, nat_eq, List, [], ◌∷◌, ◌++◌, length}
use Rattle.std.specs.List.{AllByRecursion, list_all}
use Rattle.hs_plan.specs.declared.definition.Column.{Column}
use Rattle.hs_plan.specs.declared.definition.Constraint.{Constraint}
use Rattle.hs_plan.specs.declared.definition.Rule.{Rule}
use Rattle.hs_plan.specs.declared.definition.Rule.TheVariants as rule
use Rattle.hs_columntext.specs.Columns.{column_text, IsColumn}
use Rattle.hs_keytext.specs.Owners.{Owner}
use Rattle.hs_tabletext.specs.Conditions.{Wording}
use Rattle.hs_parttext.specs.Lines.{IsLine}
use Rattle.hs_tabletext.specs.Constraints.{constraint_lines, IsConstraint}
use Rattle.hs_tabletext.specs.declared.definition.AddedColumn.{AddedColumn}

-- ---- constraints of the column itself

abbrev pub is_alone : ℕ → List ℕ → Bool
is_alone place (only ∷ []) = nat_eq only place
is_alone place _ = false

-- NOT NULL and keys are of the column at this place alone; a CHECK may be over all columns
abbrev pub is_own : ℕ → Rule → Bool
is_own place (rule.NotNull column) = nat_eq column place
is_own place (rule.PrimaryKey columns) = is_alone place columns
is_own place (rule.Unique columns) = is_alone place columns
is_own place (rule.Check condition) = true
is_own place (rule.ForeignKey key) = is_alone place key.columns
is_own place (rule.Index columns) = is_alone place columns

-- the table with the column behind its own
abbrev pub with_column : Owner → Column → Owner
with_column table column = record { name = table.name; columns = table.columns ++ column ∷ []; things = table.things }

pub record AreOwn (wording : Wording) (table : Owner) (column : Column) (constraints : List Constraint) : Type 0 where
  pub lawful : AllByRecursion (IsConstraint wording (with_column table column)) constraints
  pub own : list_all (λ c. is_own (length table.columns) c.rule) constraints ≡ true

-- the text is that of these constraints of the column
abbrev pub IsBehindColumn : Wording → Owner → Column → List ℕ → List Constraint → Type 0
IsBehindColumn wording table column = IsLine (AreOwn wording table column) (constraint_lines wording (with_column table column))

-- ---- the whole

-- the column, and behind it the lines of its constraints
abbrev pub added_text : Wording → Owner → Column → List Constraint → List ℕ
added_text wording table column constraints = column_text column ++ constraint_lines wording (with_column table column) constraints

-- a column that can be added to this table
pub record IsAdded (wording : Wording) (table : Owner) (a : AddedColumn) : Type 0 where
  pub column : IsColumn a.column
  pub constraints : AreOwn wording table a.column a.constraints

-- the text is that of this column and of its constraints
abbrev pub IsAddedText : Wording → Owner → List ℕ → AddedColumn → Type 0
IsAddedText wording table = IsLine (IsAdded wording table) (λ a. added_text wording table a.column a.constraints)
