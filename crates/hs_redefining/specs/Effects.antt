-- What a definition makes of rows.
use Rattle.std.specs.Prelude.{◌≡◌, ℕ, ◌+◌, ◌==◌, Bool, false, [], map, Option, if◌then◌else◌}
use Rattle.std.specs.FinMap.{empty, entries}
use Rattle.std.specs.List.{list_any}
use Rattle.std.specs.Option.{option_map}
use Rattle.hs_changes.specs.Settings.{Maps}
use Rattle.hs_turns.specs.Database.{Database, defined}
use Rattle.hs_turns.specs.Definitions.{lengthened, rows_after, with_rows}
use Rattle.hs_language.specs.Definitions.{makes_long, put_by}
use Rattle.hs_language.specs.Validity.{is_long, types_in}
use Rattle.hs_plan.specs.declared.definition.Definition.{Definition}
use Rattle.hs_schema.specs.Catalogue.{Things}
use Rattle.hs_sentences.specs.Violations.{Touched}
use Rattle.hs_sentences.specs.declared.violation.Violation.{Violation}
use Rattle.hs_redefining.specs.Told.{as_told}
use Rattle.hs_redefining.specs.declared.effect.Effect.{Effect}
use Rattle.hs_redefining.specs.declared.effect.Effect.TheVariants as effect

-- the rows then
abbrev pub rows_by : Effect → Maps → Maps
rows_by effect.Nothing maps = maps
rows_by (effect.Clears table) maps = with_rows table.0 empty maps
rows_by (effect.Lengthens table value) maps = with_rows table.0 (lengthened value (maps table.0)) maps

-- the rows that count as put: those that get a value
abbrev pub put_in : Effect → Maps → Touched
put_in effect.Nothing maps = λ t. []
put_in (effect.Clears table) maps = λ t. []
put_in (effect.Lengthens table value) maps = λ t. if table.0 == t then map (λ e. e.0) (entries (maps t)) else []

-- one of these is too long then
abbrev pub are_long : Effect → Things → Maps → Bool
are_long effect.Nothing things maps = false
are_long (effect.Clears table) things maps = false
are_long (effect.Lengthens table value) things maps = list_any (λ e. is_long (types_in things table.0) e.1) (entries (lengthened value (maps table.0)))

-- how the first violation among all rows is told, where these count as put
abbrev pub told_by : Effect → Things → Option Violation → Option Violation
told_by effect.Nothing things violation = violation
told_by (effect.Clears table) things violation = violation
told_by (effect.Lengthens table value) things violation = option_map (as_told things table.0) violation

-- it is what a definition with this change number makes of rows
pub record IsEffect (things : Things) (definition : Definition) (number : ℕ) (e : Effect) : Type 0 where
  pub rows : (maps : Maps) → rows_by e maps ≡ rows_after things definition number maps
  pub put : (maps : Maps) → put_in e maps ≡ put_by things definition maps
  pub long : (db : Database) → db.things ≡ things → db.count + 1 ≡ number → are_long e (defined definition db).things db.rows ≡ makes_long db definition
