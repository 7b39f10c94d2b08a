-- How tables are written where they are made.
use Rattle.std.specs.Prelude.{◌≡◌, ℕ, List, ◌++◌, codes}
use Rattle.std.specs.List.{AllByRecursion}
use Rattle.hs_ast.specs.declared.definition.Storage.{Storage}
use Rattle.hs_ast.specs.declared.definition.Storage.TheVariants as s
use Rattle.hs_plan.specs.declared.definition.Column.{Column}
use Rattle.hs_plan.specs.declared.definition.Constraint.{Constraint}
use Rattle.hs_schema.specs.Catalogue.{Things}
use Rattle.hs_nametext.specs.Names.{name_text}
use Rattle.hs_columntext.specs.Columns.{columns_text, IsColumn}
use Rattle.hs_keytext.specs.Owners.{Owner}
use Rattle.hs_tabletext.specs.Conditions.{Wording}
use Rattle.hs_parttext.specs.Lines.{IsLine}
use Rattle.hs_parttext.specs.Named.{IsName}
use Rattle.hs_tabletext.specs.Constraints.{constraint_lines, IsConstraint}
use Rattle.hs_tabletext.specs.declared.definition.NewTable.{NewTable}

-- ---- before the table's name

abbrev pub storage_text : Storage → List ℕ
storage_text s.Memory = codes "MEMORY"
storage_text s.Cached = codes "CACHED"

abbrev pub create_text : Storage → List ℕ
create_text storage = codes "CREATE " ++ (storage_text storage ++ codes " TABLE ")

abbrev pub IsCreateAt : List ℕ → Storage → List ℕ → Type 0
IsCreateAt text storage rest = text ≡ create_text storage ++ rest

-- ---- behind it

abbrev pub owner_of : Things → List ℕ → List Column → Owner
owner_of things name columns = record { name = name; columns = columns; things = things }

-- all columns, and behind them the lines of the constraints
abbrev pub body_text : Wording → Owner → List Constraint → List ℕ
body_text wording table constraints = codes "(" ++ (columns_text table.columns ++ (codes ")" ++ constraint_lines wording table constraints))

abbrev pub Body : Type 0
Body = List Column × List Constraint

pub record IsBody (wording : Wording) (things : Things) (name : List ℕ) (body : Body) : Type 0 where
  pub columns : AllByRecursion IsColumn body.0
  pub constraints : AllByRecursion (IsConstraint wording (owner_of things name body.0)) body.1

-- the text is that of these columns and constraints of a table of this name
abbrev pub IsBodyText : Wording → Things → List ℕ → List ℕ → Body → Type 0
IsBodyText wording things name = IsLine (IsBody wording things name) (λ body. body_text wording (owner_of things name body.0) body.1)

-- ---- the whole

abbrev pub table_text : Wording → Owner → Storage → List Constraint → List ℕ
table_text wording table storage constraints = create_text storage ++ (name_text table.name ++ body_text wording table constraints)

abbrev pub new_table_text : Wording → Things → NewTable → List ℕ
new_table_text wording things t = table_text wording (owner_of things t.name t.columns) t.storage t.constraints

-- a table that can be made beside the things of a catalogue
pub record IsNewTable (wording : Wording) (things : Things) (t : NewTable) : Type 0 where
  pub named : IsName t.name
  pub body : IsBody wording things t.name (t.columns, t.constraints)

-- the text is that of this table
abbrev pub IsTableText : Wording → Things → List ℕ → NewTable → Type 0
IsTableText wording things = IsLine (IsNewTable wording things) (new_table_text wording things)
