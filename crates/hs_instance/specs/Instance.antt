-- A database that is held in memory.
use Rattle.std.specs.Prelude.{◌≡◌, List, [], Option}
use Rattle.std.specs.FinMap.{empty}
use Rattle.std.specs.Option.{option_map}
use Rattle.hs_acting.specs.Kept.{keys_in}
use Rattle.hs_ast.specs.declared.session.Isolation.TheVariants.{ReadCommitted}
use Rattle.hs_claims.specs.declared.model.ControlKind.TheVariants.{Locks}
use Rattle.hs_turns.specs.Database.{Database}
use Rattle.hs_turns.specs.Definitions.{kind_of}
use Rattle.hs_language.specs.Validity.{lets_pass}
use Rattle.hs_plan.specs.declared.change.Change.{Change}
use Rattle.hs_references.specs.Referenced.{AreOf}
use Rattle.hs_schema.specs.Catalogue.{Text}
use Rattle.hs_seated.specs.Seated.{IsSeated}
use Rattle.hs_sentences.specs.Violations.{first_violated}
use Rattle.hs_sentences.specs.declared.violation.Violation.{Violation}
use Rattle.hs_sentences.specs.declared.violation.Violation.TheVariants as is
use Rattle.hs_instance.specs.declared.instance.Instance.{Instance}

-- the database with these changes of an open transaction on it
pub record IsInstance (db : Database) (changes : List Change) (i : Instance) : Type 0 where
  pub things : i.catalog ≡ db.things
  pub keys : AreOf db.things (keys_in i.keys)
  pub rows : IsSeated db.rows changes i.seated
  pub count : i.count ≡ db.count
  pub level : i.level ≡ db.level
  pub control : kind_of i.control ≡ db.control

-- the database before any commit
abbrev pub empty_database : Database
empty_database = record { things = []; rows = λ table. empty; count = 0; control = Locks; level = ReadCommitted }

-- ---- constraints

-- the name of a violated constraint
abbrev pub name_of : Violation → Text
name_of (is.Null name) = name
name_of (is.Check name) = name
name_of (is.Unique name) = name
name_of (is.Parent name) = name
name_of (is.Child name) = name

-- that of the first constraint, in the order of creation, that the rows violate where none counts as put
abbrev pub violated_name : Database → Option Text
violated_name db = option_map name_of (first_violated lets_pass db.things (λ table. []) db.rows)
