-- Changes of rows that stand, with values that fit, and rows that are set so.
use Rattle.std.proofs.Common.{◌≡◌, ℕ, ◌==◌, ◌&&◌, ◌||◌, Bool, true, false, List, [], ◌∷◌, Option, Some, is_some, refl, sym, ap, ◌∙◌}
use Rattle.std.specs.Prelude.{if◌then◌else◌}
use Rattle.std.specs.FinMap.{get}
use Rattle.std.specs.List.{Contains}
use Rattle.std.proofs.lemmas.Bool.{and_from, eq-eqb}
use Rattle.hs_base.specs.declared.numbers.RowName.{RowName}
use Rattle.hs_base.specs.declared.numbers.RowNo.{RowNo}
use Rattle.hs_base.specs.declared.numbers.TableNo.{TableNo}
use Rattle.hs_claims.specs.declared.footprint.Footprint.{Footprint}
use Rattle.hs_claims.specs.declared.key_names.KeyName.{KeyName}
use Rattle.hs_claims.specs.Footprint.{has_key as has_key_in, has_row, has_table}
use Rattle.hs_plan.specs.declared.change.Change.{Change}
use Rattle.hs_plan.specs.declared.change.Change.TheVariants as change
use Rattle.hs_values.specs.declared.value.Value.{Value}
use Rattle.hs_values.specs.SqlType.{row_fits}
use Rattle.hs_index.specs.Keys.{same_key}
use Rattle.hs_rel.proofs.Selecting.{at_head, in_tail}
use Rattle.hs_changes.specs.Settings.{Maps, Setting, is_set, last_values, names}
use Rattle.hs_changes.proofs.Set.{last_values-unset}
use Rattle.hs_schema.specs.Catalogue.{Things}
use Rattle.hs_schema.specs.declared.thing.Thing.{Thing}
use Rattle.hs_footprint.specs.Touched.{keys_changed, name_of, parents_named, rows_changed}
use Rattle.hs_language.specs.Validity.{types_in}
use Rattle.hs_validity.proofs.Equal.{same_itself}
use Rattle.hs_validity.proofs.Lists.{any_from}
use Rattle.hs_validity.proofs.Telling.{Tells}

-- ---- lists

-- what stands in a list is listed there
pub key_listed : (k : KeyName) (ks : List KeyName) → Contains ks k → has_key_in k.table.0 k.constraint.0 k.values ks ≡ true
key_listed k ks found =
    let table = eq-eqb k.table.0 k.table.0 refl in
    let place = eq-eqb k.constraint.0 k.constraint.0 refl in
    let values = same_itself k.values in
    any_from (λ (x : KeyName). (x.table.0 == k.table.0) && (x.constraint.0 == k.constraint.0) && same_key x.values k.values) ks k found (λ i. (table i) && (place i) && (values i))

pub row_listed : (table : TableNo) (row : RowNo) (rows : List RowName) → Contains rows (name_of table row) → has_row table.0 row.0 rows ≡ true
row_listed table row rows found =
    any_from (λ (x : RowName). (x.table.0 == table.0) && (x.row.0 == row.0)) rows (name_of table row) found (and_from (table.0 == table.0) (row.0 == row.0) (eq-eqb table.0 table.0 refl) (eq-eqb row.0 row.0 refl))

-- the last that sets a row
pub record Last (table row : ℕ) (before : Option (List Value)) (settings : List Setting) : Type 0 where
  pub one : Setting
  pub among : Contains settings one
  pub sets : names table row one ≡ true
  pub counts : last_values table row before settings ≡ one.values

pub last_of : (table row : ℕ) (before : Option (List Value)) (settings : List Setting) → is_set table row settings ≡ true → Last table row before settings
last_of table row before [] h = absurd (let no : false ≡ true = h in cc)
last_of table row before (s ∷ ss) h = by (λ now later. last_of table row now ss later) (is_set table row ss) refl
  where
    rest : Option (List Value)
    rest = if names table row s then s.values else before

    by : ((now : Option (List Value)) → is_set table row ss ≡ true → Last table row now ss) → (b : Bool) → is_set table row ss ≡ b → Last table row before (s ∷ ss)
    by more true later =
        let l : Last table row rest ss = more rest later in
        record { one = l.one; among = in_tail s ss l.one l.among; sets = l.sets; counts = l.counts }
    by more false none =
        let here : names table row s ≡ true = only (names table row s) (is_set table row ss) none h in
        record {
          one = s;
          among = at_head s ss;
          sets = here;
          counts = last_values-unset table row rest ss none ∙ ap (λ b. if b then s.values else before) here;
        }
      where
        only : (a b : Bool) → b ≡ false → (a || b) ≡ true → a ≡ true
        only true b e h = refl
        only false b e h = sym (ap (λ c. false || c) e) ∙ h

-- ---- changes that are proper

-- values fit the columns of a table, where there is such a table
abbrev pub FitsTable : Things → ℕ → List Value → Type 0
FitsTable things table values = (t : Thing) → Contains things t → t.table.0 ≡ table → row_fits (types_in things table) values ≡ true

-- of a table that is written, of a row that stands there where it puts or deletes one, and with values that fit the columns
abbrev pub IsProper : Things → List TableNo → Maps → Change → Type 0
IsProper things writes before (change.Insert table values) = (has_table table.0 writes ≡ true) × FitsTable things table.0 values
IsProper things writes before (change.Put table row values) = (has_table table.0 writes ≡ true) × (is_some (get (before table.0) row.0) ≡ true) × FitsTable things table.0 values
IsProper things writes before (change.Delete table row) = (has_table table.0 writes ≡ true) × (is_some (get (before table.0) row.0) ≡ true)
IsProper things writes before (change.Define definition) = ⊥

-- the footprint of changes
abbrev pub foot_of : List TableNo → List TableNo → Things → Maps → List Change → Footprint
foot_of reads writes things before cs = record { reads = reads; writes = writes; rows = rows_changed cs; keys = keys_changed things before cs; parents = parents_named things cs }

-- a row that is set is told of, and what it gets fits
pub record IsApt (things : Things) (before : Maps) (f : Footprint) (s : Setting) : Type 0 where
  pub told : Tells things (f ∷ []) s.table s.row (get (before s.table) s.row) s.values
  pub fits : (row : List Value) → s.values ≡ Some row → FitsTable things s.table row
