-- A further footprint tells no less.
use Rattle.std.proofs.Common.{◌≡◌, inl, inr, ℕ, ◌^◌, ◌||◌, Bool, true, false, List, [], ◌∷◌, Option, refl}
use Rattle.std.specs.Prelude.{nat_le}
use Rattle.std.specs.FinMap.{get}
use Rattle.std.specs.List.{list_all}
use Rattle.std.proofs.lemmas.Bool.{and_from, and_parts, or_cases, or_left, or_right}
use Rattle.hs_claims.specs.declared.footprint.Footprint.{Footprint}
use Rattle.hs_claims.specs.declared.key_names.KeyName.{KeyName}
use Rattle.hs_claims.specs.Footprint.{has_key as has_key_in, has_row, has_table}
use Rattle.hs_plan.specs.declared.change.Change.{Change}
use Rattle.hs_values.specs.declared.value.Value.{Value}
use Rattle.hs_changes.specs.Changes.{settings_of}
use Rattle.hs_changes.specs.Settings.{set_rows}
use Rattle.hs_schema.specs.Catalogue.{Things}
use Rattle.hs_footprint.specs.Touched.{keys_at}
use Rattle.hs_turns.specs.Database.{Database}
use Rattle.hs_language.specs.Described.{described, names_known, tell_key, tell_parent, tell_row, tell_setting, tell_table}
use Rattle.hs_validity.proofs.Lists.{all_weaker}
use Rattle.hs_validity.proofs.Placed.{named_of, number_at}
use Rattle.hs_validity.proofs.Telling.{Tells, tells_from, tells_to}

-- what one list of footprints tells, another tells too
pub record IsWider (feet others : List Footprint) : Type 0 where
  pub tables : (table : ℕ) → tell_table feet table ≡ true → tell_table others table ≡ true
  pub rows : (table row : ℕ) → tell_row feet table row ≡ true → tell_row others table row ≡ true
  pub keys : (k : KeyName) → tell_key feet k ≡ true → tell_key others k ≡ true
  pub parents : (k : KeyName) → tell_parent feet k ≡ true → tell_parent others k ≡ true

pub one_more : (f : Footprint) (feet : List Footprint) → IsWider feet (f ∷ feet)
one_more f feet = record {
  tables = λ table h. or_right (has_table table f.writes) (tell_table feet table) h;
  rows = λ table row h. or_right (has_row table row f.rows) (tell_row feet table row) h;
  keys = λ k h. or_right (has_key_in k.table.0 k.constraint.0 k.values f.keys) (tell_key feet k) h;
  parents = λ k h. or_right (has_key_in k.table.0 k.constraint.0 k.values f.parents) (tell_parent feet k) h;
}

one_alone : (a b : Bool) → (a || false) ≡ true → (a || b) ≡ true
one_alone true b h = refl
one_alone false b h = absurd (let no : false ≡ true = h in cc)

pub more_behind : (f : Footprint) (feet : List Footprint) → IsWider (f ∷ []) (f ∷ feet)
more_behind f feet = record {
  tables = λ table h. one_alone (has_table table f.writes) (tell_table feet table) h;
  rows = λ table row h. one_alone (has_row table row f.rows) (tell_row feet table row) h;
  keys = λ k h. one_alone (has_key_in k.table.0 k.constraint.0 k.values f.keys) (tell_key feet k) h;
  parents = λ k h. one_alone (has_key_in k.table.0 k.constraint.0 k.values f.parents) (tell_parent feet k) h;
}

pub tells_wider : (feet others : List Footprint) → IsWider feet others → (things : Things) (table row : ℕ) (old new : Option (List Value)) → Tells things feet table row old new → Tells things others table row old new
tells_wider feet others wide things table row old new t = record {
  table_told = wide.tables table t.table_told;
  row_told = elim (or_cases (nat_le (2 ^ 63) row) (tell_row feet table row) t.row_told) [
    | inl own ↦ or_left (nat_le (2 ^ 63) row) (tell_row others table row) own
    | inr told ↦ or_right (nat_le (2 ^ 63) row) (tell_row others table row) (wide.rows table row told)
  ];
  told = record {
    keys = all_weaker (tell_key feet) (tell_key others) wide.keys (keys_at things (number_at table) old new) t.told.keys;
    parents = all_weaker (tell_parent feet) (tell_parent others) wide.parents (named_of things table new) t.told.parents;
  };
}

pub none : (db : Database) → described db [] [] ≡ true
none db = refl

pub wider : (db : Database) (changes : List Change) (f : Footprint) (feet : List Footprint) → described db changes feet ≡ true → described db changes (f ∷ feet) ≡ true
wider db changes f feet h =
    let settings = settings_of 0 changes in
    let after = set_rows db.rows settings in
    let known = names_known db.count 0 changes in
    let all = λ (fs : List Footprint). list_all (tell_setting db.things fs db.rows after) settings in
    let parts = and_parts known (all feet) h in
    and_from known (all (f ∷ feet)) parts.0
    (all_weaker (tell_setting db.things feet db.rows after) (tell_setting db.things (f ∷ feet) db.rows after)
    (λ s told.
    tells_to db.things (f ∷ feet) s.table s.row (get (db.rows s.table) s.row) (get (after s.table) s.row)
    (tells_wider feet (f ∷ feet) (one_more f feet) db.things s.table s.row (get (db.rows s.table) s.row) (get (after s.table) s.row)
    (tells_from db.things feet s.table s.row (get (db.rows s.table) s.row) (get (after s.table) s.row) told)))
    settings parts.1)
