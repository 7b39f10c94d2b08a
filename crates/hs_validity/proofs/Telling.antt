-- What footprints tell of rows that changes set.
use Rattle.std.proofs.Common.{◌≡◌, ℕ, ◌^◌, ◌==◌, ◌&&◌, ◌||◌, Bool, true, List, [], ◌∷◌, Option, Some, None, refl, sym, ap, ap₂, ◌∙◌}
use Rattle.std.specs.Prelude.{nat_le}
use Rattle.std.specs.FinMap.{get}
use Rattle.std.specs.List.{list_all}
use Rattle.std.proofs.lemmas.Bool.{and_from, and_parts, eqb-true}
use Rattle.hs_base.specs.declared.numbers.TableNo.{TableNo}
use Rattle.hs_claims.specs.declared.footprint.Footprint.{Footprint}
use Rattle.hs_claims.specs.declared.key_names.KeyName.{KeyName}
use Rattle.hs_claims.specs.Footprint.{IsClear, has_key as has_key_in, has_row}
use Rattle.hs_values.specs.declared.value.Value.{Value}
use Rattle.hs_index.specs.Keys.{same_key}
use Rattle.hs_changes.specs.Settings.{Maps, Setting, is_set, names}
use Rattle.hs_schema.specs.Catalogue.{Things}
use Rattle.hs_sentences.proofs.Looking.{same_tests}
use Rattle.hs_footprint.specs.Touched.{key_name, keys_at}
use Rattle.hs_turns.specs.Each.{Across}
use Rattle.hs_language.specs.Described.{parents_named_by, table_of, tell_key, tell_of, tell_parent, tell_row, tell_setting, tell_table}
use Rattle.hs_validity.proofs.Across.{not_across}
use Rattle.hs_validity.proofs.Equal.{same_through, same_turned}
use Rattle.hs_validity.proofs.Lists.{all_at, any_found}
use Rattle.hs_validity.proofs.Placed.{NoCommon, Teller, Told, named_of}

-- ---- equal keys are told alike

same_right : (a b k : List Value) → same_key a b ≡ true → same_key k a ≡ same_key k b
same_right a b k same = same_tests (same_key k a) (same_key k b) (λ h. same_through k a b h same) (λ h. same_through k b a h (same_turned a b same))

listed_alike : (table constraint : ℕ) (a b : List Value) → same_key a b ≡ true → (ks : List KeyName) → has_key_in table constraint a ks ≡ has_key_in table constraint b ks
listed_alike table constraint a b same [] = refl
listed_alike table constraint a b same (k ∷ ks) =
    ap₂ (λ (x y : Bool). x || y) (ap (λ (s : Bool). (k.table.0 == table) && (k.constraint.0 == constraint) && s) (same_right a b k.values same)) (listed_alike table constraint a b same ks)

pub keys_alike : (table : TableNo) (place : ℕ) (a b : List Value) → same_key a b ≡ true → (feet : List Footprint) → tell_key feet (key_name table place a) ≡ tell_key feet (key_name table place b)
keys_alike table place a b same [] = refl
keys_alike table place a b same (f ∷ feet) = ap₂ (λ (x y : Bool). x || y) (listed_alike table.0 place a b same f.keys) (keys_alike table place a b same feet)

pub parents_alike : (table : TableNo) (place : ℕ) (a b : List Value) → same_key a b ≡ true → (feet : List Footprint) → tell_parent feet (key_name table place a) ≡ tell_parent feet (key_name table place b)
parents_alike table place a b same [] = refl
parents_alike table place a b same (f ∷ feet) = ap₂ (λ (x y : Bool). x || y) (listed_alike table.0 place a b same f.parents) (parents_alike table place a b same feet)

abbrev pub teller_of : List Footprint → Teller
teller_of feet = record {
  key = tell_key feet;
  parent = tell_parent feet;
  keys_alike = λ table place a b same h. sym (keys_alike table place a b same feet) ∙ h;
  parents_alike = λ table place a b same h. sym (parents_alike table place a b same feet) ∙ h;
}

-- ---- footprints that are clear of one another

module _ (feet others : List Footprint) (clear : Across IsClear feet others) where
  pub clear_rows : (table row : ℕ) → tell_row feet table row ≡ true → tell_row others table row ≡ true → ⊥
  clear_rows table row = not_across IsClear (λ f. has_row table row f.rows) (λ g. has_row table row g.rows) (λ f g c one other. c.rows table row one other) feet others clear

  pub clear_keys : NoCommon (tell_key feet) (tell_key others)
  clear_keys k = not_across IsClear (λ f. has_key_in k.table.0 k.constraint.0 k.values f.keys) (λ g. has_key_in k.table.0 k.constraint.0 k.values g.keys) (λ f g c one other. c.keys k.table.0 k.constraint.0 k.values one other) feet others clear

  pub clear_parents : NoCommon (tell_parent feet) (tell_key others)
  clear_parents k = not_across IsClear (λ f. has_key_in k.table.0 k.constraint.0 k.values f.parents) (λ g. has_key_in k.table.0 k.constraint.0 k.values g.keys) (λ f g c one other. c.parents k.table.0 k.constraint.0 k.values one other) feet others clear

  pub clear_children : NoCommon (tell_key feet) (tell_parent others)
  clear_children k = not_across IsClear (λ f. has_key_in k.table.0 k.constraint.0 k.values f.keys) (λ g. has_key_in k.table.0 k.constraint.0 k.values g.parents) (λ f g c one other. c.children k.table.0 k.constraint.0 k.values one other) feet others clear

-- ---- one row

-- they tell of a row that was the first and is the second
pub record Tells (things : Things) (feet : List Footprint) (table row : ℕ) (old new : Option (List Value)) : Type 0 where
  pub table_told : tell_table feet table ≡ true
  pub row_told : (nat_le (2 ^ 63) row || tell_row feet table row) ≡ true
  pub told : Told things (teller_of feet) table old new

pub named_as : (things : Things) (table : ℕ) (row : Option (List Value)) → parents_named_by things table row ≡ named_of things table row
named_as things table None = refl
named_as things table (Some row) = refl

pub tells_from : (things : Things) (feet : List Footprint) (table row : ℕ) (old new : Option (List Value)) → tell_of things feet table row old new ≡ true → Tells things feet table row old new
tells_from things feet table row old new h =
    let a = tell_table feet table in
    let b = nat_le (2 ^ 63) row || tell_row feet table row in
    let c = list_all (tell_key feet) (keys_at things (table_of table) old new) in
    let d = list_all (tell_parent feet) (parents_named_by things table new) in
    let first = and_parts a (b && (c && d)) h in
    let second = and_parts b (c && d) first.1 in
    let third = and_parts c d second.1 in
    record { table_told = first.0; row_told = second.0; told = record { keys = third.0; parents = sym (ap (list_all (tell_parent feet)) (named_as things table new)) ∙ third.1 } }

pub tells_to : (things : Things) (feet : List Footprint) (table row : ℕ) (old new : Option (List Value)) → Tells things feet table row old new → tell_of things feet table row old new ≡ true
tells_to things feet table row old new t =
    let a = tell_table feet table in
    let b = nat_le (2 ^ 63) row || tell_row feet table row in
    let c = list_all (tell_key feet) (keys_at things (table_of table) old new) in
    let d = list_all (tell_parent feet) (parents_named_by things table new) in
    and_from a (b && (c && d)) t.table_told (and_from b (c && d) t.row_told (and_from c d t.told.keys (ap (list_all (tell_parent feet)) (named_as things table new) ∙ t.told.parents)))

-- ---- all rows that are set

pub told_where_set : (things : Things) (feet : List Footprint) (before after : Maps) (settings : List Setting) → list_all (tell_setting things feet before after) settings ≡ true
    → (table row : ℕ) → is_set table row settings ≡ true → Tells things feet table row (get (before table) row) (get (after table) row)
told_where_set things feet before after settings all table row set =
    let s = any_found (names table row) settings set in
    let parts = and_parts (table == s.0.table) (row == s.0.row) s.2 in
    tells_from things feet table row (get (before table) row) (get (after table) row)
    (ap₂ (λ (t r : ℕ). tell_of things feet t r (get (before t) r) (get (after t) r)) (eqb-true table s.0.table parts.0) (eqb-true row s.0.row parts.1)
    ∙ all_at (tell_setting things feet before after) settings s.0 all s.1)
