-- When footprints tell of all that changes do to a database.
use Rattle.std.specs.Prelude.{ℕ, ◌+◌, ◌^◌, ◌&&◌, ◌||◌, nat_le, nat_lt, Bool, true, false, List, [], ◌∷◌, Option, None, Some}
use Rattle.std.specs.FinMap.{get}
use Rattle.std.specs.List.{list_all, list_any}
use Rattle.hs_base.specs.declared.numbers.TableNo.{TableNo}
use Rattle.hs_claims.specs.declared.footprint.Footprint.{Footprint}
use Rattle.hs_claims.specs.declared.key_names.KeyName.{KeyName}
use Rattle.hs_claims.specs.Footprint.{has_key, has_row, has_table}
use Rattle.hs_plan.specs.declared.change.Change.{Change}
use Rattle.hs_plan.specs.declared.change.Change.TheVariants as change
use Rattle.hs_values.specs.declared.value.Value.{Value}
use Rattle.hs_changes.specs.Changes.{count_inserted, settings_of}
use Rattle.hs_changes.specs.Settings.{Maps, Setting, set_rows}
use Rattle.hs_footprint.specs.Touched.{keys_at, parents_at}
use Rattle.hs_schema.specs.Catalogue.{Things}
use Rattle.hs_turns.specs.Database.{Database}

-- ---- rows that are known

-- one that may be committed after so many changes, or one of the first so many that the transaction inserted
abbrev pub is_known : ℕ → ℕ → ℕ → Bool
is_known count inserted row = nat_le row count || (nat_lt (2 ^ 63) row && nat_le row (2 ^ 63 + inserted))

abbrev pub knows_row : ℕ → ℕ → Change → Bool
knows_row count inserted (change.Insert table values) = true
knows_row count inserted (change.Put table row values) = is_known count inserted row.0
knows_row count inserted (change.Delete table row) = is_known count inserted row.0
knows_row count inserted (change.Define definition) = false

-- each change behind so many inserts is of a known row, and none is a definition
abbrev pub names_known : ℕ → ℕ → List Change → Bool
names_known count inserted [] = true
names_known count inserted (c ∷ cs) = knows_row count inserted c && names_known count (inserted + count_inserted c) cs

-- ---- what footprints tell

-- one of them tells of the table as written, of the row, of the key, of the parent's key
abbrev pub tell_table : List Footprint → ℕ → Bool
tell_table feet table = list_any (λ (f : Footprint). has_table table f.writes) feet

abbrev pub tell_row : List Footprint → ℕ → ℕ → Bool
tell_row feet table row = list_any (λ (f : Footprint). has_row table row f.rows) feet

abbrev pub tell_key : List Footprint → KeyName → Bool
tell_key feet k = list_any (λ (f : Footprint). has_key k.table.0 k.constraint.0 k.values f.keys) feet

abbrev pub tell_parent : List Footprint → KeyName → Bool
tell_parent feet k = list_any (λ (f : Footprint). has_key k.table.0 k.constraint.0 k.values f.parents) feet

-- ---- one row that is set

abbrev pub table_of : ℕ → TableNo
table_of table = record { 0 = table }

-- the parent keys that a row names, none where it is deleted
abbrev pub parents_named_by : Things → ℕ → Option (List Value) → List KeyName
parents_named_by things table None = []
parents_named_by things table (Some row) = parents_at things (table_of table) row

-- They tell of a row that was the first and is the second: of its table as written; of the row, if it was committed; of
-- the unique keys that it lost or got; and of the parent keys that it names.
abbrev pub tell_of : Things → List Footprint → ℕ → ℕ → Option (List Value) → Option (List Value) → Bool
tell_of things feet table row old new =
    tell_table feet table && ((nat_le (2 ^ 63) row || tell_row feet table row)
    && (list_all (tell_key feet) (keys_at things (table_of table) old new) && list_all (tell_parent feet) (parents_named_by things table new)))

-- ---- the whole

abbrev pub tell_setting : Things → List Footprint → Maps → Maps → Setting → Bool
tell_setting things feet before after s = tell_of things feet s.table s.row (get (before s.table) s.row) (get (after s.table) s.row)

-- they tell of each row that changes set, from what it was before them to what it is behind all of them
abbrev pub described : Database → List Change → List Footprint → Bool
described db changes feet =
    names_known db.count 0 changes
    && (let settings = settings_of 0 changes in list_all (tell_setting db.things feet db.rows (set_rows db.rows settings)) settings)
