-- How foreign keys are written.
use Rattle.std.specs.Prelude.{◌≡◌, ℕ, true, if◌then◌else◌, List, [], ◌∷◌, ◌++◌, length, codes, Option, Some, IsUtf8}
use Rattle.std.specs.Option.{option_map, option_map_or}
use Rattle.std.specs.Str.{bytes_eq}
use Rattle.hs_ast.specs.declared.definition.ReferentialAction.{ReferentialAction}
use Rattle.hs_ast.specs.declared.definition.ReferentialAction.TheVariants as a
use Rattle.hs_plan.specs.declared.definition.Column.{Column}
use Rattle.hs_plan.specs.declared.definition.ForeignKey.{ForeignKey}
use Rattle.hs_schema.specs.Catalogue.{table_named}
use Rattle.hs_nametext.specs.Names.{name_text, is_name}
use Rattle.hs_keytext.specs.Owners.{Owner}
use Rattle.hs_keytext.specs.Places.{places_text, AreColumns}

-- ---- actions

abbrev pub action_text : ReferentialAction → List ℕ
action_text a.NoAction = codes "NO ACTION"
action_text a.Restrict = codes "RESTRICT"
action_text a.Cascade = codes "CASCADE"
action_text a.SetNull = codes "SET NULL"
action_text a.SetDefault = codes "SET DEFAULT"

-- the text begins with this one and an action behind it
pub record IsActionBehind (front text : List ℕ) (action : ReferentialAction) (rest : List ℕ) : Type 0 where
  pub written : text ≡ front ++ (action_text action ++ rest)

-- that of deletions, and that of updates
abbrev pub actions_text : ReferentialAction × ReferentialAction → List ℕ
actions_text p = codes " ON DELETE " ++ (action_text p.0 ++ (codes " ON UPDATE " ++ action_text p.1))

-- the text is that of these actions
pub record AreActions (text : List ℕ) (p : ReferentialAction × ReferentialAction) : Type 0 where
  pub written : text ≡ actions_text p

-- ---- the parent

-- the columns of a table of a name: the owner's own, or those of a table of the catalogue
abbrev pub columns_named : Owner → List ℕ → Option (List Column)
columns_named owner name = if bytes_eq name owner.name then Some owner.columns else option_map (λ t. t.columns) (table_named owner.things name)

-- no columns where there is no such table
abbrev pub parent_columns : Owner → List ℕ → List Column
parent_columns owner name = option_map_or (λ columns. columns) (columns_named owner name) []

-- what a foreign key has behind its parent's name
abbrev pub Referenced : Type 0
Referenced = List ℕ × (ReferentialAction × ReferentialAction)

abbrev pub referenced_text : List Column → Referenced → List ℕ
referenced_text columns r = codes "(" ++ (places_text columns r.0 ++ (codes ")" ++ actions_text r.1))

-- it is all of the text
pub record IsReferenced (columns : List Column) (text : List ℕ) (r : Referenced) : Type 0 where
  pub lawful : AreColumns columns r.0
  pub written : text ≡ referenced_text columns r

-- the parent's name, and what stands behind it
abbrev pub parent_text : Owner → List ℕ × Referenced → List ℕ
parent_text owner p = name_text p.0 ++ referenced_text (parent_columns owner p.0) p.1

pub record IsParent (owner : Owner) (text : List ℕ) (p : List ℕ × Referenced) : Type 0 where
  pub named : is_name p.0 ≡ true
  pub utf8 : IsUtf8 p.0
  pub lawful : AreColumns (parent_columns owner p.0) p.1.0
  pub written : text ≡ parent_text owner p

-- the parent has this name, behind which the text stands
pub record IsParentNamed (owner : Owner) (name text : List ℕ) (p : List ℕ × Referenced) : Type 0 where
  pub is : p.0 ≡ name
  pub at : IsReferenced (parent_columns owner name) text p.1

-- ---- foreign keys

abbrev pub parent_of : ForeignKey → List ℕ × Referenced
parent_of key = (key.parent, (key.parent_columns, (key.on_delete, key.on_update)))

abbrev pub foreign_key_text : Owner → ForeignKey → List ℕ
foreign_key_text owner key = codes "FOREIGN KEY(" ++ (places_text owner.columns key.columns ++ (codes ") REFERENCES " ++ parent_text owner (parent_of key)))

-- Columns of the owner, and as many of the parent, which is the owner itself or a table of the catalogue.
pub record IsForeignKey (owner : Owner) (key : ForeignKey) : Type 0 where
  pub own : AreColumns owner.columns key.columns
  pub named : is_name key.parent ≡ true
  pub utf8 : IsUtf8 key.parent
  pub theirs : AreColumns (parent_columns owner key.parent) key.parent_columns
  pub paired : length key.columns ≡ length key.parent_columns

-- the text is that of this foreign key
pub record IsForeignKeyText (owner : Owner) (text : List ℕ) (key : ForeignKey) : Type 0 where
  pub lawful : IsForeignKey owner key
  pub written : text ≡ foreign_key_text owner key

-- the foreign key has these columns, behind which the text stands
pub record IsBehindColumns (owner : Owner) (columns : List ℕ) (text : List ℕ) (key : ForeignKey) : Type 0 where
  pub is : key.columns ≡ columns
  pub named : is_name key.parent ≡ true
  pub utf8 : IsUtf8 key.parent
  pub theirs : AreColumns (parent_columns owner key.parent) key.parent_columns
  pub paired : length columns ≡ length key.parent_columns
  pub written : text ≡ codes " REFERENCES " ++ parent_text owner (parent_of key)
