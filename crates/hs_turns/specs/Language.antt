-- Data statements as functions of what they read, and what the laws of transactions ask of them.
use Rattle.std.specs.Prelude.{◌≡◌, ℕ, ◌^◌, ◌<◌, Bool, true, List, [], ◌∷◌, ◌++◌, Option, Some}
use Rattle.std.specs.List.{flat_map}
use Rattle.std.specs.Option.{option_map_or}
use Rattle.hs_claims.specs.declared.footprint.Footprint.{Footprint}
use Rattle.hs_claims.specs.Footprint.{Reference, has_table, has_row, touches, IsLawful, IsClear}
use Rattle.hs_plan.specs.declared.change.Change.{Change}
use Rattle.hs_plan.specs.declared.change.Change.TheVariants as change
use Rattle.hs_plan.specs.declared.definition.Definition.{Definition}
use Rattle.hs_plan.specs.declared.definition.Rule.{Rule}
use Rattle.hs_plan.specs.declared.definition.Rule.TheVariants as rule
use Rattle.hs_changes.specs.Changes.{count_all_inserted}
use Rattle.hs_schema.specs.Catalogue.{Text, Things, constraints_in, number_of}
use Rattle.hs_turns.specs.Database.{Database, view, committed, has_room, IsNumbered}
use Rattle.hs_turns.specs.Each.{Each, Across}

-- ---- foreign keys

abbrev pub reference_by : Things → ℕ → Rule → List Reference
reference_by things child (rule.ForeignKey key) = option_map_or (λ parent. record { child = child; parent = parent.0 } ∷ []) (number_of things key.parent) []
reference_by things child _ = []

-- the foreign keys of a catalogue, each as its table and the one that it references
abbrev pub references_of : Things → List Reference
references_of things = flat_map (λ t. flat_map (λ c. reference_by things t.table.0 c.rule) (constraints_in t.part)) things

-- ---- data statements

-- What a data statement comes to: the rows that it tells, its reply without the number of a commit, its changes, and what
-- it touches. One that is refused has no changes.
pub record Outcome : Type 0 where
  pub rows : List Text
  pub reply : Text
  pub changes : List Change
  pub foot : Footprint

-- statements, definitions and constraints as functions
pub record Language : Type 0 where
  -- a data statement by its text, in a read-only transaction or another, which has inserted so many rows by then, where it
  -- reads this database
  pub outcome : Bool → ℕ → Database → Text → Outcome
  -- what the text of a definition means over a database, and none where it is refused
  pub definition : Database → Text → Option Definition
  -- every constraint holds, and each row fits its columns
  pub is_valid : Database → Bool
  -- these footprints tell of all that the changes of a transaction do to a database
  pub describes : Database → List Change → List Footprint → Bool

-- ---- what ties a statement to its footprint

-- both databases have one catalogue, and the same rows in each table that the statement reads or writes
pub record Agree (f : Footprint) (a b : Database) : Type 0 where
  pub things : a.things ≡ b.things
  pub rows : (table : ℕ) → touches f table ≡ true → a.rows table ≡ b.rows table

-- a row is of a table that the statement writes, and if it was committed, the statement changes it
pub record IsRowWithin (f : Footprint) (table row : ℕ) : Type 0 where
  pub written : has_table table f.writes ≡ true
  pub changed : row < 2 ^ 63 → has_row table row f.rows ≡ true

-- so is that of a change
abbrev pub IsWithin : Footprint → Change → Type 0
IsWithin f (change.Insert table values) = has_table table.0 f.writes ≡ true
IsWithin f (change.Put table row values) = IsRowWithin f table.0 row.0
IsWithin f (change.Delete table row) = IsRowWithin f table.0 row.0
IsWithin f (change.Define definition) = ⊥

-- these changes, which such footprints describe, leave a valid database
abbrev pub IsFine : Language → Database → List Footprint → List Change → Type 0
IsFine lang db feet changes = (lang.describes db changes feet ≡ true) × (lang.is_valid (view db changes) ≡ true)

-- a database that commits may lead to: it is valid, and its rows are numbered by the changes that made them
abbrev pub Stands : Language → Database → Type 0
Stands lang db = (lang.is_valid db ≡ true) × IsNumbered db

-- ---- the laws

pub record Laws (lang : Language) : Type 0 where
  -- Frame: on two valid databases that agree on what a statement touches it comes to the same
  pub frame : (read_only : Bool) (inserted : ℕ) (a b : Database) (text : Text) → lang.is_valid a ≡ true → lang.is_valid b ≡ true → Agree (lang.outcome read_only inserted a text).foot a b
      → lang.outcome read_only inserted b text ≡ lang.outcome read_only inserted a text
  -- on a valid database its changes are within its footprint, which is lawful; in a read-only transaction there are none
  pub within : (read_only : Bool) (inserted : ℕ) (db : Database) (text : Text) → lang.is_valid db ≡ true → Each (IsWithin (lang.outcome read_only inserted db text).foot) (lang.outcome read_only inserted db text).changes
  pub lawful : (read_only : Bool) (inserted : ℕ) (db : Database) (text : Text) → lang.is_valid db ≡ true → IsLawful (references_of db.things) read_only (lang.outcome read_only inserted db text).foot
  pub reader : (inserted : ℕ) (db : Database) (text : Text) → lang.is_valid db ≡ true → (lang.outcome true inserted db text).changes ≡ []
  -- no footprint describes no change; one statement more is described by its footprint, and leaves a valid database
  pub none : (db : Database) → Stands lang db → lang.describes db [] [] ≡ true
  pub more : (read_only : Bool) (db : Database) (changes : List Change) (feet : List Footprint) (text : Text) → Stands lang db → IsFine lang db feet changes
      → IsFine lang db ((lang.outcome read_only (count_all_inserted changes) (view db changes) text).foot ∷ feet) (changes ++ (lang.outcome read_only (count_all_inserted changes) (view db changes) text).changes)
  -- a further footprint may be among those that describe
  pub wider : (db : Database) (changes : List Change) (f : Footprint) (feet : List Footprint) → lang.describes db changes feet ≡ true → lang.describes db changes (f ∷ feet) ≡ true
  -- new numbers of inserted rows leave it valid
  pub numbers : (db : Database) (changes : List Change) (feet : List Footprint) → Stands lang db → IsFine lang db feet changes → has_room db changes ≡ true → Stands lang (committed db changes)
  -- the commit of another transaction, of which this one is clear, leaves it described and valid
  pub moved : (db : Database) (changes others : List Change) (feet other_feet : List Footprint) → Stands lang db → IsFine lang db feet changes → IsFine lang db other_feet others → has_room db others ≡ true → Across IsClear feet other_feet
      → IsFine lang (committed db others) feet changes
  -- a definition that isn't refused leaves a valid database
  pub accepted : (db : Database) (text : Text) (definition : Definition) → Stands lang db → lang.definition db text ≡ Some definition → lang.is_valid (committed db (change.Define definition ∷ [])) ≡ true
