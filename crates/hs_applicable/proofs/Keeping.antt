-- Changes that may be made leave a sound database so.
use Rattle.std.proofs.Common.{◌≡◌, ℕ, ◌+◌, ◌^◌, ◌≤◌, ◌<◌, ◌==◌, ◌&&◌, Bool, true, false, if◌then◌else◌, nat_lt, List, [], ◌∷◌, length, Option, Some, None, refl, ap, ◌∙◌, arith}
use Rattle.std.specs.Prelude.{is_none, is_some}
use Rattle.std.proofs.lemmas.Bool.{and_from, and_parts, both_ways, le-leb, leb-true, ltb-false, ltb-true, ne_eqb}
use Rattle.std.specs.FinMap.{get}
use Rattle.std.specs.Option.{option_map_or}
use Rattle.hs_base.specs.declared.numbers.TableNo.{TableNo}
use Rattle.hs_changes.specs.Settings.{Setting}
use Rattle.hs_changes.proofs.Set.{get-set_row}
use Rattle.hs_turns.specs.Database.{Database, apply, defined, has_room, make, with_row, IsNumbered}
use Rattle.hs_turns.proofs.Applied.{apply-count}
use Rattle.hs_turns.proofs.Defined.{defined_numbered}
use Rattle.hs_language.specs.Definitions.{still_referenced}
use Rattle.hs_language.specs.Sound.{is_sound}
use Rattle.hs_language.specs.Sql.{are_numbered, is_valid}
use Rattle.hs_language.specs.Validity.{all_fit, all_hold, lets_pass}
use Rattle.hs_plan.specs.declared.change.Change.{Change}
use Rattle.hs_plan.specs.declared.change.Change.TheVariants as change
use Rattle.hs_plan.specs.declared.definition.Definition.{Definition}
use Rattle.hs_language.proofs.Accepted.{fitting_after}
use Rattle.hs_language.proofs.Fitting.{fit_from, fit_test, types_if}
use Rattle.hs_language.proofs.Numbered.{is_next, up_to_after, up_to_next}
use Rattle.hs_language.proofs.Sound.{parts_of, sound_after}
use Rattle.hs_rowtext.specs.Rows.{types_of}
use Rattle.hs_schema.specs.Catalogue.{Things, table_numbered}
use Rattle.hs_schema.specs.declared.table.Table.{Table}
use Rattle.hs_sentences.specs.Violations.{first_violated}
use Rattle.hs_values.specs.SqlType.{row_fits}
use Rattle.hs_values.specs.declared.value.Value.{Value}
use Rattle.hs_applicable.specs.Applicable.{fits_table, has_row, may_make, may_make_all, may_make_each, takes_row}
use Rattle.hs_applicable.specs.Bound.{is_proper}
use Rattle.hs_applicable.specs.SoundDatabase.{IsSoundDatabase, is_sound_database}
use Rattle.hs_applicable.proofs.Tested.{none_is, proper_from}
use Rattle.hs_applicable.proofs.RowsSet.{fit_set}

-- ---- one row

takes_fits : (things : Things) (table : TableNo) (values : List Value) → takes_row things table values ≡ true → row_fits (types_if (table_numbered things table)) values ≡ true
takes_fits things table values h = by (table_numbered things table) (and_parts (fits_table things table values) _ h).0
  where
    by : (o : Option Table) → option_map_or (λ (t : Table). row_fits (types_of t.columns) values) o false ≡ true → row_fits (types_if o) values ≡ true
    by None h = absurd (let no : false ≡ true = h in cc)
    by (Some t) h = h

module _ (db : Database) (table : TableNo) (row : ℕ) (values : Option (List Value)) where
  abbrev its : Setting
  its = record { table = table.0; row = row; values = values }

  row_sound : is_sound_database db ≡ true → option_map_or (row_fits (types_if (table_numbered db.things table))) values true ≡ true → is_sound_database (with_row its db) ≡ true
  row_sound h fits =
      let next : Database = with_row its db in
      let a = and_parts (are_numbered db) (is_sound db.things && all_fit db) h in
      let b = and_parts (is_sound db.things) (all_fit db) a.1 in
      and_from (are_numbered next) (is_sound next.things && all_fit next) (up_to_next db.things db.count a.0)
      (and_from (is_sound next.things) (all_fit next) b.0
      (fit_test db.things next.rows (parts_of db.things b.0).1.owned (fit_set db.things db.rows table row values (fit_from db.things db.rows b.1) fits)))

  row_numbered : IsNumbered db → db.count + 1 ≤ 2 ^ 48 → row ≤ db.count + 1 → IsNumbered (with_row its db)
  row_numbered numbered room low = record {
    above = λ t r more. get-set_row db.rows its t r ∙ by t r more (t == table.0);
    few = room;
  }
    where
      by : (t r : ℕ) → db.count + 1 < r → (b : Bool) → (if b && (r == row) then values else get (db.rows t) r) ≡ None
      by t r more true = ap (λ (x : Bool). if x then values else get (db.rows t) r) (ne_eqb r row (λ e. omega (arith, e, low, more))) ∙ numbered.above t r (omega (arith, more))
      by t r more false = numbered.above t r (omega (arith, more))

-- a row that is there has no number above the count
known : (db : Database) (table row : ℕ) → IsNumbered db → is_some (get (db.rows table) row) ≡ true → row ≤ db.count
known db table row numbered there = by (nat_lt db.count row) refl
  where
    by : (b : Bool) → nat_lt db.count row ≡ b → row ≤ db.count
    by true h = absurd (both_ways (is_some (get (db.rows table) row)) (ap is_some (numbered.above table row (ltb-true db.count row h))) there)
    by false h = ltb-false db.count row h

-- ---- one change

module _ (db : Database) (s : IsSoundDatabase db) (room : db.count + 1 ≤ 2 ^ 48) where
  abbrev parts : (are_numbered db ≡ true) × ((is_sound db.things && all_fit db) ≡ true)
  parts = and_parts (are_numbered db) (is_sound db.things && all_fit db) s.sound

  abbrev rest : (is_sound db.things ≡ true) × (all_fit db ≡ true)
  rest = and_parts (is_sound db.things) (all_fit db) parts.1

  defined_sound : (definition : Definition) → may_make db (change.Define definition) ≡ true → IsSoundDatabase (defined definition db)
  defined_sound definition may =
      let behind : Database = defined definition db in
      let may_be = and_parts (is_proper db.things definition) (is_none (still_referenced db.things definition)) may in
      let proper = proper_from db.things definition may_be.0 in
      let sound : is_sound behind.things ≡ true =
      sound_after db.things (db.count + 1) definition rest.0 (is_next db.things db.count parts.0 definition) proper (none_is (still_referenced db.things definition) may_be.1) in
      record {
        sound = and_from (are_numbered behind) (is_sound behind.things && all_fit behind) (up_to_after db.things (db.count + 1) (up_to_next db.things db.count parts.0) definition)
            (and_from (is_sound behind.things) (all_fit behind) sound (fitting_after db definition parts.0 rest.0 sound proper rest.1));
        numbered = defined_numbered db definition s.numbered (le-leb (db.count + 1) (2 ^ 48) room);
      }

  pub sound_more : (c : Change) → may_make db c ≡ true → IsSoundDatabase (make db c)
  sound_more (change.Insert table values) may = record {
    sound = row_sound db table (db.count + 1) (Some values) s.sound (takes_fits db.things table values may);
    numbered = row_numbered db table (db.count + 1) (Some values) s.numbered room (omega arith);
  }
  sound_more (change.Put table row values) may =
      let may_be = and_parts (has_row db.rows table row) (takes_row db.things table values) may in
      let low = known db table.0 row.0 s.numbered may_be.0 in
      record {
        sound = row_sound db table row.0 (Some values) s.sound (takes_fits db.things table values may_be.1);
        numbered = row_numbered db table row.0 (Some values) s.numbered room (omega (arith, low));
      }
  sound_more (change.Delete table row) may =
      let may_be = and_parts (is_some (table_numbered db.things table)) (has_row db.rows table row) may in
      let low = known db table.0 row.0 s.numbered may_be.1 in
      record {
        sound = row_sound db table row.0 None s.sound refl;
        numbered = row_numbered db table row.0 None s.numbered room (omega (arith, low));
      }
  sound_more (change.Define definition) may = defined_sound definition may

-- ---- changes one behind another

each_sound : (db : Database) (changes : List Change) → IsSoundDatabase db → db.count + length changes ≤ 2 ^ 48 → may_make_each db changes ≡ true → IsSoundDatabase (apply db changes)
each_sound db [] s room may = s
each_sound db (c ∷ cs) s room may =
    let may_be = and_parts (may_make db c) (may_make_each (make db c) cs) may in
    let count = apply-count db (c ∷ []) in
    each_sound (make db c) cs (sound_more db s (omega (arith, room)) c may_be.0) (omega (arith, room, count)) may_be.1

pub all_sound : (db : Database) (changes : List Change) → IsSoundDatabase db → may_make_all db changes ≡ true → IsSoundDatabase (apply db changes)
all_sound db changes s may =
    let may_be = and_parts (has_room db changes) (may_make_each db changes) may in
    each_sound db changes s (leb-true (db.count + length changes) (2 ^ 48) may_be.0) may_be.1

-- ---- the whole

pub sound_valid : (db : Database) → IsSoundDatabase db → first_violated lets_pass db.things (λ table. []) db.rows ≡ None → is_valid db ≡ true
sound_valid db s none =
    let a = and_parts (are_numbered db) (is_sound db.things && all_fit db) s.sound in
    let b = and_parts (is_sound db.things) (all_fit db) a.1 in
    and_from (are_numbered db) (is_sound db.things && (all_fit db && all_hold db)) a.0
    (and_from (is_sound db.things) (all_fit db && all_hold db) b.0 (and_from (all_fit db) (all_hold db) b.1 (ap is_none none)))
