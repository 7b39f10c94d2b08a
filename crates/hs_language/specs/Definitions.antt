-- When a definition is refused that the catalogue allows: by foreign keys that reference what it drops, or by rows.
use Rattle.std.specs.Prelude.{ℕ, ◌==◌, ◌&&◌, not, Bool, true, false, List, [], map, find, Option, None, Some, Result, Ok, Err, if◌then◌else◌}
use Rattle.std.specs.FinMap.{entries}
use Rattle.std.specs.List.{list_any}
use Rattle.std.specs.Option.{option_map, option_map_or}
use Rattle.std.specs.Str.{bytes_eq}
use Rattle.hs_base.specs.declared.numbers.TableNo.{TableNo}
use Rattle.hs_plan.specs.declared.definition.Constraint.{Constraint}
use Rattle.hs_plan.specs.declared.definition.Definition.{Definition}
use Rattle.hs_plan.specs.declared.definition.Definition.TheVariants as d
use Rattle.hs_plan.specs.declared.definition.Rule.{Rule}
use Rattle.hs_plan.specs.declared.definition.Rule.TheVariants as rule
use Rattle.hs_changes.specs.Settings.{Maps}
use Rattle.hs_schema.specs.Catalogue.{Text, Things, number_of, place_in, table_named}
use Rattle.hs_schema.specs.declared.table.Place.{Place}
use Rattle.hs_schema.specs.declared.table.Table.{Table}
use Rattle.hs_sentences.specs.declared.violation.Violation.{Violation}
use Rattle.hs_sentences.specs.declared.violation.Violation.TheVariants as is
use Rattle.hs_sentences.specs.Violations.{Touched, constraints_of, first_violated}
use Rattle.hs_footprint.specs.Touched.{key_over}
use Rattle.hs_turns.specs.Database.{Database, defined}
use Rattle.hs_language.specs.Validity.{is_long, lets_pass, types_in}
use Rattle.hs_language.specs.Words.{long_row_words, violation_words}

-- ---- what is dropped

-- it is a foreign key that names this table as its parent
abbrev pub rule_names : Text → Rule → Bool
rule_names name (rule.ForeignKey key) = bytes_eq key.parent name
rule_names name _ = false

-- a foreign key of another table than this number's references the table of this name
abbrev pub references_table : ℕ → Text → (ℕ × Constraint) → Bool
references_table table name c = not (c.0 == table) && rule_names name c.1.rule

abbrev pub is_at : ℕ → Option ℕ → Bool
is_at place None = false
is_at place (Some other) = place == other

-- it is a foreign key that references the key that has this place among a table's constraints
abbrev pub rule_takes : Table → ℕ → Rule → Bool
rule_takes table place (rule.ForeignKey key) = bytes_eq key.parent table.name && is_at place (key_over table key.parent_columns)
rule_takes table place _ = false

abbrev pub references_key : Table → ℕ → (ℕ × Constraint) → Bool
references_key table place c = rule_takes table place c.1.rule

abbrev pub first_name : ((ℕ × Constraint) → Bool) → Things → Option Text
first_name test things = option_map (λ c. c.1.name) (find test (constraints_of things))

abbrev pub key_referenced : Things → Table → Option Place → Option Text
key_referenced things table None = None
key_referenced things table (Some place) = first_name (references_key table place.constraint.0) things

-- the first foreign key that references a table or a key that is dropped; a table may reference itself
abbrev pub still_referenced : Things → Definition → Option Text
still_referenced things (d.DropTable name) = option_map_or (λ t. first_name (references_table t.0 name) things) (number_of things name) None
still_referenced things (d.DropConstraint table name) = option_map_or (λ t. key_referenced things t (place_in name t)) (table_named things table) None
still_referenced things _ = None

-- ---- rows that stand

-- the rows of a table's column count as put where the column is added
abbrev pub put_by : Things → Definition → Maps → Touched
put_by things (d.AddColumn table column constraints) rows =
    λ t. option_map_or (λ own. if own.0 == t then map (λ e. e.0) (entries (rows t)) else []) (number_of things table) []
put_by things _ rows = λ t. []

-- the first constraint that the rows violate behind the definition
abbrev pub violated_by : Database → Definition → Option Violation
violated_by db definition = let after = defined definition db in first_violated lets_pass after.things (put_by db.things definition db.rows) after.rows

abbrev pub has_long : Database → TableNo → Bool
has_long db table = list_any (λ e. is_long (types_in db.things table.0) e.1) (entries (db.rows table.0))

-- a row is too long that gets a column
abbrev pub makes_long : Database → Definition → Bool
makes_long db (d.AddColumn table column constraints) = option_map_or (has_long (defined (d.AddColumn table column constraints) db)) (number_of db.things table) false
makes_long db _ = false

-- ---- the whole

abbrev pub unless_long : Bool → Definition → Result Definition Text
unless_long true definition = Err long_row_words
unless_long false definition = Ok definition

abbrev pub unless_violated : Option Violation → Bool → Definition → Result Definition Text
unless_violated (Some violation) long definition = Err (violation_words violation)
unless_violated None long definition = unless_long long definition

abbrev pub unless_referenced : Option Text → Database → Definition → Result Definition Text
unless_referenced (Some name) db definition = Err (violation_words (is.Child name))
unless_referenced None db definition = unless_violated (violated_by db definition) (makes_long db definition) definition

-- what a definition that is bound defines, or why it is refused
abbrev pub judged : Database → Definition → Result Definition Text
judged db definition = unless_referenced (still_referenced db.things definition) db definition
