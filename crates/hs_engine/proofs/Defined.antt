-- Definitions of SQL are bound, with lawful defaults.
use Rattle.std.proofs.Common.{◌≡◌, ◌+◌, ◌&&◌, Bool, true, false, List, [], ◌∷◌, Option, None, Some, Result, Ok, Err, ap}
use Rattle.std.specs.List.{list_all}
use Rattle.std.specs.Option.{option_map_or}
use Rattle.std.proofs.lemmas.Bool.{and_parts}
use Rattle.std.proofs.lemmas.List.Elements.{All-cons, All-nil}
use Rattle.hs_columntext.specs.Columns as defaults
use Rattle.hs_turns.specs.Database.{Database}
use Rattle.hs_entering.specs.Defaults.{HasLawfulDefaults}
use Rattle.hs_entries.specs.Entry.{statement_of}
use Rattle.hs_language.specs.Definitions.{makes_long, still_referenced, unless_long, unless_referenced, unless_violated, violated_by}
use Rattle.hs_language.specs.Sound.{has_fitting_default, is_sound}
use Rattle.hs_language.specs.Sql.{are_numbered, definition_by, definition_in, is_valid}
use Rattle.hs_language.specs.Validity.{all_fit, all_hold}
use Rattle.hs_language_laws.proofs.Frame.{valid_from}
use Rattle.hs_plan.specs.declared.definition.Column.{Column}
use Rattle.hs_plan.specs.declared.definition.Definition.{Definition}
use Rattle.hs_plan.specs.declared.definition.Definition.TheVariants as d
use Rattle.hs_plan.specs.declared.plan.Plan.{Plan}
use Rattle.hs_plan.specs.declared.plan.Plan.TheVariants as plan
use Rattle.hs_reading.proofs.Bound.{proper_by}
use Rattle.hs_reading.proofs.Offered.{offered}
use Rattle.hs_language.specs.Proper.{IsProper}
use Rattle.hs_language.proofs.Numbered.{is_next}
use Rattle.hs_requests.specs.Plans.{plan_of}
use Rattle.hs_requests.proofs.Told.{meant}
use Rattle.hs_schema.specs.Catalogue.{IsNext, Text, Things}
use Rattle.hs_schema.specs.Whole.{IsWhole}
use Rattle.hs_sentences.specs.declared.violation.Violation.{Violation}
use Rattle.hs_values.specs.SqlType.{fits_of}
use Rattle.hs_values.specs.declared.value.Value.{Value}
use Rattle.hs_values.proofs.OneType.{fits_lawful}

-- ---- what is bound

pub whole_in : (db : Database) → is_valid db ≡ true → IsWhole db.things
whole_in db h = (valid_from db h).whole

pub proper_in : (things : Things) (text : Text) (definition : Definition) → IsWhole things → plan_of things text ≡ Ok (plan.Define definition) → IsProper things definition
proper_in things text definition whole is = let its = meant things text (plan.Define definition) is in proper_by things its.0 definition whole (offered (statement_of text) its.0 its.1) its.2

pub next_in : (db : Database) (definition : Definition) → is_valid db ≡ true → IsNext db.things definition (db.count + 1)
next_in db definition h = is_next db.things db.count (and_parts (are_numbered db) (is_sound db.things && (all_fit db && all_hold db)) h).0 definition

-- ---- what isn't refused is the definition itself

same_long : (long : Bool) (a b : Definition) → unless_long long a ≡ Ok b → a ≡ b
same_long true a b h = absurd cc
same_long false a b h = cc

same_violated : (v : Option Violation) (long : Bool) (a b : Definition) → unless_violated v long a ≡ Ok b → a ≡ b
same_violated (Some v) long a b h = absurd cc
same_violated None long a b h = same_long long a b h

same_referenced : (name : Option Text) (db : Database) (a b : Definition) → unless_referenced name db a ≡ Ok b → a ≡ b
same_referenced (Some name) db a b h = absurd cc
same_referenced None db a b h = same_violated (violated_by db a) (makes_long db a) a b h

module _ (db : Database) (definition : Definition) where
  by_plan : (p : Plan) → definition_in db p ≡ Ok definition → p ≡ plan.Define definition
  by_plan (plan.Define own) h = ap plan.Define (same_referenced (still_referenced db.things own) db own definition h)
  by_plan (plan.Query query) h = absurd cc
  by_plan (plan.Insert insert) h = absurd cc
  by_plan (plan.Update update) h = absurd cc
  by_plan (plan.Delete delete) h = absurd cc
  by_plan (plan.LockTable locked) h = absurd cc
  by_plan (plan.Session statement) h = absurd cc

  pub planned : (meant : Result Plan Text) → definition_by db meant ≡ Ok definition → meant ≡ Ok (plan.Define definition)
  planned (Ok p) h = ap (λ (q : Plan). Ok q) (by_plan p h)
  planned (Err why) h = absurd cc

-- ---- defaults

default_lawful : (c : Column) (value : Option Value) → option_map_or (fits_of c.data_type) value true ≡ true → defaults.IsPrintable value
default_lawful c None h = tt
default_lawful c (Some value) h = fits_lawful c.data_type value h

defaults_lawful : (columns : List Column) → list_all has_fitting_default columns ≡ true → defaults.ArePrintable columns
defaults_lawful [] h = All-nil (λ (c : Column). defaults.IsPrintable c.default)
defaults_lawful (c ∷ cs) h =
    let parts = and_parts (has_fitting_default c) (list_all has_fitting_default cs) h in
    All-cons (λ (k : Column). defaults.IsPrintable k.default) c cs (default_lawful c c.default parts.0) (defaults_lawful cs parts.1)

lawful_by : (definition : Definition) (things : Things) → IsProper things definition → HasLawfulDefaults definition
lawful_by (d.CreateTable storage name columns constraints) things proper = defaults_lawful columns proper.defaults
lawful_by (d.AddColumn table column constraints) things proper = default_lawful column column.default (and_parts (has_fitting_default column) true proper.defaults).0
lawful_by (d.DropTable name) things proper = tt
lawful_by (d.AddConstraint table constraint) things proper = tt
lawful_by (d.DropConstraint table name) things proper = tt
lawful_by (d.CreateIndex table name columns) things proper = tt
lawful_by (d.DropIndex name) things proper = tt
lawful_by (d.SetControl control) things proper = tt
lawful_by (d.SetDefaultLevel serializable) things proper = tt

-- the defaults of what some text defines over a valid database
pub lawful_in : (db : Database) (text : Text) (definition : Definition) → is_valid db ≡ true → definition_by db (plan_of db.things text) ≡ Ok definition → HasLawfulDefaults definition
lawful_in db text definition h is = lawful_by definition db.things (proper_in db.things text definition (whole_in db h) (planned db definition (plan_of db.things text) is))
