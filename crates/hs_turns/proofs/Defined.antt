-- A definition gives no row a number above the count.
use Rattle.std.proofs.Common.{◌≡◌, ℕ, ◌+◌, ◌^◌, ◌==◌, Bool, true, false, cond, List, [], ◌∷◌, ◌++◌, ap, ◌∙◌, arith, leb-true}
use Rattle.std.specs.Prelude.{Option, Some, None}
use Rattle.std.specs.FinMap.{get, empty, get-empty}
use Rattle.std.specs.Option.{option_map, option_map_or}
use Rattle.std.specs.Ordering.{nat_cmp}
use Rattle.hs_base.specs.declared.numbers.TableNo.{TableNo}
use Rattle.hs_plan.specs.declared.change.Change.TheVariants as change
use Rattle.hs_plan.specs.declared.definition.Definition.{Definition}
use Rattle.hs_plan.specs.declared.definition.Definition.TheVariants as d
use Rattle.hs_values.specs.declared.value.Value.{Value}
use Rattle.hs_index.specs.Table.{Rows}
use Rattle.hs_changes.specs.Settings.{Maps}
use Rattle.hs_schema.specs.Catalogue.{Things, number_of}
use Rattle.hs_turns.specs.Database.{Database, committed, has_room, IsNumbered}
use Rattle.hs_turns.specs.Definitions.{with_rows, lengthened, default_value, rows_after}
use Rattle.hs_turns.proofs.Lengthened.{get-lengthened}

abbrev HasNone : ℕ → Maps → Type 0
HasNone row maps = (table : ℕ) → get (maps table) row ≡ None

with_none : (row number : ℕ) (rows : Rows) (maps : Maps) → get rows row ≡ None → HasNone row maps → HasNone row (with_rows number rows maps)
with_none row number rows maps none h table = by (table == number)
  where
    by : (b : Bool) → get (cond b rows (maps table)) row ≡ None
    by true = none
    by false = h table

longer_none : (value : Value) (rows : Rows) (row : ℕ) → get rows row ≡ None → get (lengthened value rows) row ≡ None
longer_none value rows row none = get-lengthened value rows row ∙ ap (option_map (λ (values : List Value). values ++ value ∷ [])) none

for_table : (row : ℕ) (maps : Maps) (changed : TableNo → Maps) → HasNone row maps → ((t : TableNo) → HasNone row (changed t)) → (found : Option TableNo) → HasNone row (option_map_or changed found maps)
for_table row maps changed h k None = h
for_table row maps changed h k (Some t) = k t

none_after : (things : Things) (definition : Definition) (number row : ℕ) (maps : Maps) → HasNone row maps → HasNone row (rows_after things definition number maps)
none_after things (d.CreateTable storage name columns constraints) number row maps h = with_none row number empty maps (get-empty nat_cmp row) h
none_after things (d.DropTable name) number row maps h = for_table row maps (λ t. with_rows t.0 empty maps) h (λ t. with_none row t.0 empty maps (get-empty nat_cmp row) h) (number_of things name)
none_after things (d.AddColumn table column constraints) number row maps h =
    for_table row maps (λ t. with_rows t.0 (lengthened (default_value column) (maps t.0)) maps) h
    (λ t. with_none row t.0 (lengthened (default_value column) (maps t.0)) maps (longer_none (default_value column) (maps t.0) row (h t.0)) h) (number_of things table)
none_after things (d.AddConstraint table constraint) number row maps h = h
none_after things (d.DropConstraint table name) number row maps h = h
none_after things (d.CreateIndex table name columns) number row maps h = h
none_after things (d.DropIndex name) number row maps h = h
none_after things (d.SetControl control) number row maps h = h
none_after things (d.SetDefaultLevel serializable) number row maps h = h

pub defined_numbered : (db : Database) (definition : Definition) → IsNumbered db → has_room db (change.Define definition ∷ []) ≡ true → IsNumbered (committed db (change.Define definition ∷ []))
defined_numbered db definition h room = record {
  above = λ table row more. none_after db.things definition (db.count + 1) row db.rows (λ t. h.above t row (omega (arith, more))) table;
  few = let most = leb-true (db.count + 1) (2 ^ 48) room in omega (arith, most);
}
