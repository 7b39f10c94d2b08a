-- In a sound catalogue each constraint stands among those of its table, and each foreign key references a key.
use Rattle.std.proofs.Common.{◌≡◌, ℕ, true, false, ◌&&◌, List, [], map, length, find, Option, Some, None, is_some, refl, sym, ap, subst, ◌∙◌, slice_get, slice_index_or}
use Rattle.std.specs.Prelude.{◌==◌}
use Rattle.std.specs.List.{Contains, flat_map, list_all}
use Rattle.std.specs.Option.{option_map_or}
use Rattle.std.proofs.lemmas.Bool.{and_parts, eq-eqb}
use Rattle.std.proofs.lemmas.List.Quantifiers.{position-Some}
use Rattle.std.proofs.lemmas.Option.{none-some, same_Some, slice_get-get_or}
use Rattle.hs_base.specs.declared.numbers.TableNo.{TableNo}
use Rattle.hs_plan.specs.declared.definition.Column.{Column}
use Rattle.hs_plan.specs.declared.definition.Constraint.{Constraint}
use Rattle.hs_plan.specs.declared.definition.ForeignKey.{ForeignKey}
use Rattle.hs_plan.specs.declared.definition.Rule.TheVariants as rule
use Rattle.hs_rel.proofs.Selecting.{to_filter}
use Rattle.hs_schema.specs.Catalogue.{Things, columns_in, constraints_in, is_of, is_table, number_of, own, table_in, table_numbered, table_with}
use Rattle.hs_schema.specs.declared.table.Table.{Table}
use Rattle.hs_schema.specs.declared.thing.Part.{Part}
use Rattle.hs_schema.specs.declared.thing.Part.TheVariants as part
use Rattle.hs_schema.specs.declared.thing.Thing.{Thing}
use Rattle.hs_sentences.specs.Violations.{constraints_of}
use Rattle.hs_footprint.specs.Touched.{are_same, has_all, key_columns, key_over}
use Rattle.hs_language.specs.Sound.{has_fitting_default, is_owned, is_sound, is_sound_constraint, is_sound_rule, is_whole, references_key_of}
use Rattle.hs_validity.proofs.Lists.{all_at, get_contained, in_flat, in_mapped, to_flat}
use Rattle.hs_validity.proofs.Placed.{AllPlaced, AllReferenced, Placed, Referenced}

-- ---- tables

abbrev IsMadeOf : Table → TableNo → List Column → List Constraint → Type 0
IsMadeOf t number columns constraints = (t.constraints ≡ constraints) × (t.number ≡ number) × (t.columns ≡ columns)

made_of : (p : Part) (number : TableNo) (columns : List Column) (constraints : List Constraint) (t : Table) → table_with p number columns constraints ≡ Some t → IsMadeOf t number columns constraints
made_of (part.Table name storage created) number columns constraints t is =
    let same = sym (same_Some (record { name = name; number = number; storage = storage; columns = columns; constraints = constraints }) t is) in
    (ap (λ (x : Table). x.constraints) same, ap (λ (x : Table). x.number) same, ap (λ (x : Table). x.columns) same)
made_of (part.Column column) number columns constraints t is = absurd (none-some t is)
made_of (part.Constraint constraint) number columns constraints t is = absurd (none-some t is)

pub found_in : (number : TableNo) (things : Things) (t : Table) → table_in number things ≡ Some t → IsMadeOf t number (flat_map (λ (x : Thing). columns_in x.part) things) (flat_map (λ (x : Thing). constraints_in x.part) things)
found_in number things t = by (find (λ (x : Thing). is_table x.part) things)
  where
    by : (o : Option Thing) → option_map_or (λ (x : Thing). table_with x.part number (flat_map (λ (x : Thing). columns_in x.part) things) (flat_map (λ (x : Thing). constraints_in x.part) things)) o None ≡ Some t
        → IsMadeOf t number (flat_map (λ (x : Thing). columns_in x.part) things) (flat_map (λ (x : Thing). constraints_in x.part) things)
    by None is = absurd (none-some t is)
    by (Some x) is = made_of x.part number (flat_map (λ (x : Thing). columns_in x.part) things) (flat_map (λ (x : Thing). constraints_in x.part) things) t is

-- ---- constraints

module _ (things : Things) (owned : list_all (is_owned things) things ≡ true) where
  placed_at : (th : Thing) (c : Constraint) → Contains things th → Contains (constraints_in th.part) c → Placed things (th.table.0, c)
  placed_at th c at has = by (table_numbered things th.table) refl (all_at (is_owned things) things th owned at)
    where
      by : (o : Option Table) → table_numbered things th.table ≡ o → is_some o ≡ true → Placed things (th.table.0, c)
      by None e is = absurd (let no : false ≡ true = is in cc)
      by (Some t) e is =
          let parts = found_in th.table (own things th.table) t e in
          let itself : Contains (own things th.table) th = to_filter (is_of th.table) things th at (eq-eqb th.table.0 th.table.0 refl) in
          let among : Contains t.constraints c = subst (λ l. Contains l c) (sym parts.0) (to_flat (λ (x : Thing). constraints_in x.part) (own things th.table) th c itself has) in
          let place = get_contained t.constraints c among in
          record { table = t; found = e; place = place.0; at = place.1 }

  pub all_placed : AllPlaced things
  all_placed c found =
      let th = in_flat (λ (t : Thing). map (λ (x : Constraint). (t.table.0, x)) (constraints_in t.part)) things c found in
      let its = in_mapped (λ (x : Constraint). (th.0.table.0, x)) (constraints_in th.0.part) c th.2 in
      subst (Placed things) its.2 (placed_at th.0 its.0 th.1 its.1)

-- ---- foreign keys

abbrev no_constraint : Constraint
no_constraint = record { name = []; rule = rule.Index [] }

module _ (things : Things) (key : ForeignKey) (n : TableNo) (named : number_of things key.parent ≡ Some n) (t : Table) (found : table_numbered things n ≡ Some t) where
  by_columns : (place : ℕ) (own_key : Constraint) → key_over t key.parent_columns ≡ Some place → slice_get t.constraints place ≡ Some own_key → (o : Option (List ℕ)) → key_columns own_key.rule ≡ o → are_same o key.parent_columns ≡ true → Referenced things key
  by_columns place own_key over at None is same = absurd (let no : false ≡ true = same in cc)
  by_columns place own_key over at (Some columns) is same =
      let parts = and_parts (has_all columns key.parent_columns) (has_all key.parent_columns columns) same in
      record {
        number = n;
        named = named;
        table = t;
        found = found;
        itself = (found_in n (own things n) t found).1;
        place = place;
        over = over;
        own = own_key;
        at = at;
        columns = columns;
        of_rule = is;
        has_referenced = parts.0;
        are_referenced = parts.1;
      }

  by_place : (o : Option ℕ) → key_over t key.parent_columns ≡ o → is_some o ≡ true → Referenced things key
  by_place None over is = absurd (let no : false ≡ true = is in cc)
  by_place (Some place) over is =
      let test = λ (c : Constraint). are_same (key_columns c.rule) key.parent_columns in
      let first = position-Some test t.constraints place no_constraint over in
      let own_key = slice_index_or t.constraints place no_constraint in
      by_columns place own_key over (slice_get-get_or t.constraints place no_constraint first.0) (key_columns own_key.rule) refl first.1

module _ (things : Things) (key : ForeignKey) where
  by_table : (n : TableNo) → number_of things key.parent ≡ Some n → (o : Option Table) → table_numbered things n ≡ o → option_map_or (references_key_of key) o false ≡ true → Referenced things key
  by_table n named None found is = absurd (let no : false ≡ true = is in cc)
  by_table n named (Some t) found is = by_place things key n named t found (key_over t key.parent_columns) refl (and_parts (length key.columns == length key.parent_columns) (is_some (key_over t key.parent_columns)) is).1

  by_number : (o : Option TableNo) → number_of things key.parent ≡ o → option_map_or (references_key_of key) (option_map_or (table_numbered things) o None) false ≡ true → Referenced things key
  by_number None named is = absurd (let no : false ≡ true = is in cc)
  by_number (Some n) named is = by_table n named (table_numbered things n) refl is

pub all_referenced : (things : Things) → list_all (is_sound_constraint things) (constraints_of things) ≡ true → AllReferenced things
all_referenced things sound c key found is =
    by_number things key (number_of things key.parent) refl (ap (is_sound_rule things) (sym is) ∙ all_at (is_sound_constraint things) (constraints_of things) c sound found)

-- ---- sound catalogues

pub owned_in : (things : Things) → is_sound things ≡ true → list_all (is_owned things) things ≡ true
owned_in things sound =
    let whole = is_whole things in
    let owned = list_all (is_owned things) things in
    let fitting = list_all has_fitting_default (flat_map (λ (t : Thing). columns_in t.part) things) in
    let keys = list_all (is_sound_constraint things) (constraints_of things) in
    (and_parts owned (fitting && keys) (and_parts whole (owned && (fitting && keys)) sound).1).0

pub fitting_in : (things : Things) → is_sound things ≡ true → list_all has_fitting_default (flat_map (λ (t : Thing). columns_in t.part) things) ≡ true
fitting_in things sound =
    let whole = is_whole things in
    let owned = list_all (is_owned things) things in
    let fitting = list_all has_fitting_default (flat_map (λ (t : Thing). columns_in t.part) things) in
    let keys = list_all (is_sound_constraint things) (constraints_of things) in
    (and_parts fitting keys (and_parts owned (fitting && keys) (and_parts whole (owned && (fitting && keys)) sound).1).1).0

pub placed_in : (things : Things) → is_sound things ≡ true → AllPlaced things
placed_in things sound = all_placed things (owned_in things sound)

pub referenced_in : (things : Things) → is_sound things ≡ true → AllReferenced things
referenced_in things sound =
    let whole = is_whole things in
    let owned = list_all (is_owned things) things in
    let fitting = list_all has_fitting_default (flat_map (λ (t : Thing). columns_in t.part) things) in
    let keys = list_all (is_sound_constraint things) (constraints_of things) in
    all_referenced things (and_parts fitting keys (and_parts owned (fitting && keys) (and_parts whole (owned && (fitting && keys)) sound).1).1).1
