-- What definitions make of rows.
use Rattle.std.proofs.Common.{◌≡◌, ℕ, ◌==◌, false, List, [], map, Option, Some, None, refl, sym, ap, ◌∙◌, if◌then◌else◌}
use Rattle.std.proofs.lemmas.Bool.{eq-eqb}
use Rattle.std.specs.FinMap.{empty, entries}
use Rattle.std.specs.List.{list_any}
use Rattle.std.specs.Option.{option_map_or}
use Rattle.hs_ast.specs.declared.definition.Storage.{Storage}
use Rattle.hs_base.specs.declared.numbers.TableNo.{TableNo}
use Rattle.hs_changes.specs.Settings.{Maps}
use Rattle.hs_turns.specs.Database.{defined}
use Rattle.hs_turns.specs.Definitions.{default_value, lengthened, rows_after, with_rows}
use Rattle.hs_index.specs.Table.{Rows}
use Rattle.hs_language.specs.Definitions.{has_long}
use Rattle.hs_language.specs.Validity.{is_long, types_in}
use Rattle.hs_plan.specs.declared.definition.Column.{Column}
use Rattle.hs_plan.specs.declared.definition.Constraint.{Constraint}
use Rattle.hs_plan.specs.declared.definition.Definition.{Definition}
use Rattle.hs_plan.specs.declared.definition.Definition.TheVariants as d
use Rattle.hs_schema.specs.Catalogue.{Text, Things, number_of}
use Rattle.hs_values.specs.declared.value.Value.{Value}
use Rattle.hs_redefining.specs.Effects.{IsEffect, rows_by}
use Rattle.hs_redefining.specs.declared.effect.Effect.TheVariants as effect

pub creates : (things : Things) (storage : Storage) (name : Text) (columns : List Column) (constraints : List Constraint) (number : ℕ) → IsEffect things (d.CreateTable storage name columns constraints) number (effect.Clears (record { 0 = number }))
creates things storage name columns constraints number = record { rows = λ maps. refl; put = λ maps. refl; long = λ db same next. refl }

-- ---- a table that is dropped

pub drops : (things : Things) (name : Text) (number : ℕ) (t : TableNo) → Some t ≡ number_of things name → IsEffect things (d.DropTable name) number (effect.Clears t)
drops things name number t at = record {
  rows = λ maps. ap (λ o. option_map_or (λ (n : TableNo). with_rows n.0 empty maps) o maps) at;
  put = λ maps. refl;
  long = λ db same next. refl;
}

pub drops_none : (things : Things) (name : Text) (number : ℕ) → None ≡ number_of things name → IsEffect things (d.DropTable name) number effect.Nothing
drops_none things name number at = record {
  rows = λ maps. ap (λ o. option_map_or (λ (n : TableNo). with_rows n.0 empty maps) o maps) at;
  put = λ maps. refl;
  long = λ db same next. refl;
}

-- ---- a column that is added

-- the rows of a table that has these
pub its_rows : (t : ℕ) (rows : Rows) (maps : Maps) → with_rows t rows maps t ≡ rows
its_rows t rows maps = ap (λ b. if b then rows else maps t) (eq-eqb t t refl)

module _ (things : Things) (table : Text) (column : Column) (constraints : List Constraint) (number : ℕ) where
  abbrev definition : Definition
  definition = d.AddColumn table column constraints

  abbrev touched_by : Maps → Option TableNo → ℕ → List ℕ
  touched_by maps o = λ t. option_map_or (λ (own : TableNo). if own.0 == t then map (λ (e : ℕ × List Value). e.0) (entries (maps t)) else []) o []

  abbrev grown_by : Maps → Option TableNo → Maps
  grown_by maps o = option_map_or (λ (t : TableNo). with_rows t.0 (lengthened (default_value column) (maps t.0)) maps) o maps

  pub adds : (t : TableNo) (value : Value) → Some t ≡ number_of things table → value ≡ default_value column → IsEffect things definition number (effect.Lengthens t value)
  adds t value at is = record {
    rows = made;
    put = λ maps. ap (touched_by maps) at;
    long = λ db same next.
        let found : Some t ≡ number_of db.things table = at ∙ ap (λ ts. number_of ts table) (sym same) in
        let rows : lengthened value (db.rows t.0) ≡ (defined definition db).rows t.0 =
        ap (λ v. lengthened v (db.rows t.0)) is
        ∙ sym (its_rows t.0 (lengthened (default_value column) (db.rows t.0)) db.rows)
        ∙ ap (λ o. grown_by db.rows o t.0) found in
        ap (λ (rs : Rows). list_any (λ (e : ℕ × List Value). is_long (types_in (defined definition db).things t.0) e.1) (entries rs)) rows
        ∙ ap (λ o. option_map_or (has_long (defined definition db)) o false) found;
  }
    where
      made : (maps : Maps) → rows_by (effect.Lengthens t value) maps ≡ rows_after things definition number maps
      made maps = ap (λ v. with_rows t.0 (lengthened v (maps t.0)) maps) is ∙ ap (grown_by maps) at

  pub adds_none : None ≡ number_of things table → IsEffect things definition number effect.Nothing
  adds_none at = record {
    rows = λ maps. ap (grown_by maps) at;
    put = λ maps. ap (touched_by maps) at;
    long = λ db same next. ap (λ o. option_map_or (has_long (defined definition db)) o false) (at ∙ ap (λ ts. number_of ts table) (sym same));
  }
