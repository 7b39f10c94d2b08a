-- A proper definition that drops nothing that is referenced keeps a catalogue sound.
use Rattle.std.proofs.Common.{◌≡◌, ℕ, Bool, true, false, not, ◌&&◌, ◌||◌, find, List, [], ◌∷◌, Option, Some, None, refl, sym, ap, ◌∙◌, subst}
use Rattle.std.proofs.lemmas.Bool.{and_from, and_parts, not-true}
use Rattle.std.proofs.lemmas.Iterator.Adapters.{position_from-zero}
use Rattle.std.specs.List.{flat_map, list_all, position_from}
use Rattle.std.specs.Option.{option_map, option_map_or}
use Rattle.std.specs.Str.{bytes_eq}
use Rattle.hs_ast.specs.declared.definition.Storage.{Storage}
use Rattle.hs_base.specs.declared.numbers.TableNo.{TableNo}
use Rattle.hs_plan.specs.declared.definition.Column.{Column}
use Rattle.hs_plan.specs.declared.definition.Constraint.{Constraint}
use Rattle.hs_plan.specs.declared.definition.Definition.{Definition}
use Rattle.hs_plan.specs.declared.definition.Definition.TheVariants as d
use Rattle.hs_plan.specs.declared.definition.ForeignKey.{ForeignKey}
use Rattle.hs_plan.specs.declared.definition.Rule.TheVariants as rule
use Rattle.hs_schema.specs.Catalogue.{IsNext, Text, Things, after, columns_in, number_of, owner_of, table_named, table_numbered, without_constraint}
use Rattle.hs_schema.specs.Whole.{IsWhole}
use Rattle.hs_schema.specs.declared.table.Table.{Table}
use Rattle.hs_schema.specs.declared.thing.Thing.{Thing}
use Rattle.hs_schema.proofs.After.{name_of_number, number_of_name, whole_after}
use Rattle.hs_schema.proofs.Made.{new_one}
use Rattle.hs_sentences.specs.Violations.{constraints_of}
use Rattle.hs_footprint.specs.Touched.{key_over}
use Rattle.hs_language.specs.Definitions.{first_name, is_at, key_referenced, references_key, references_table, rule_takes, still_referenced}
use Rattle.hs_language.specs.Sound.{has_fitting_default, is_owned, is_sound, is_sound_constraint, is_whole}
use Rattle.hs_language.specs.Proper.{is_index, is_index_named, is_key_over, rule_refers, IsProper}
use Rattle.hs_language.proofs.Created.{created_fitting, created_named, created_owned, created_references}
use Rattle.hs_language.proofs.Dropped.{dropped_fitting, dropped_owned, dropped_references}
use Rattle.hs_language.proofs.Grown.{grown_fitting, grown_named, grown_owned, grown_references}
use Rattle.hs_language.proofs.Keys.{rule_new}
use Rattle.hs_language.proofs.Lists.{all_weaker, none_found}
use Rattle.hs_language.proofs.Tables.{itself, same_choice, some_there}
use Rattle.hs_language.proofs.Whole.{whole_from, whole_test}
use Rattle.hs_language.proofs.Without.{left_by_index, left_by_place, all_of_table, names_differ, without_fitting, without_owned, without_references, IsLeft}

-- ---- the parts

-- what is asked beside names and numbers
pub record Parts (things : Things) : Type 0 where
  pub owned : list_all (is_owned things) things ≡ true
  pub fitting : list_all has_fitting_default (flat_map (λ t. columns_in t.part) things) ≡ true
  pub referenced : list_all (is_sound_constraint things) (constraints_of things) ≡ true

pub parts_of : (things : Things) → is_sound things ≡ true → (is_whole things ≡ true) × Parts things
parts_of things h =
    let a = and_parts (is_whole things) _ h in
    let b = and_parts (list_all (is_owned things) things) _ a.1 in
    let c = and_parts (list_all has_fitting_default (flat_map (λ (t : Thing). columns_in t.part) things)) (list_all (is_sound_constraint things) (constraints_of things)) b.1 in
    (a.0, record { owned = b.0; fitting = c.0; referenced = c.1 })

sound_by : (things : Things) → is_whole things ≡ true → Parts things → is_sound things ≡ true
sound_by things w p =
    and_from (is_whole things) _ w
    (and_from (list_all (is_owned things) things) _ p.owned
    (and_from (list_all has_fitting_default (flat_map (λ (t : Thing). columns_in t.part) things)) (list_all (is_sound_constraint things) (constraints_of things)) p.fitting p.referenced))

-- ---- what is not referenced

none_named : (test : (ℕ × Constraint) → Bool) (things : Things) → first_name test things ≡ None → list_all (λ c. not (test c)) (constraints_of things) ≡ true
none_named test things h = none_found test (constraints_of things) (by (find test (constraints_of things)) h)
  where
    by : (o : Option (ℕ × Constraint)) → option_map (λ (c : ℕ × Constraint). c.1.name) o ≡ None → o ≡ None
    by None h = refl
    by (Some c) h = absurd (let no : Some c.1.name ≡ None = h in cc)

-- ---- each definition

module _ (things : Things) (number : ℕ) (whole : IsWhole things) (p : Parts things) where
  created : (storage : Storage) (name : Text) (columns : List Column) (constraints : List Constraint) → IsNext things (d.CreateTable storage name columns constraints) number
      → IsProper things (d.CreateTable storage name columns constraints) → Parts (after things (d.CreateTable storage name columns constraints) number)
  created storage name columns constraints next proper =
      let behind : Things = after things (d.CreateTable storage name columns constraints) number in
      record {
        owned = created_owned things number storage name columns constraints whole next proper.bound.0 proper.bound.1 p.owned;
        fitting = created_fitting things number storage name columns constraints whole next proper.bound.0 proper.bound.1 p.fitting proper.defaults;
        referenced = created_references things number storage name columns constraints whole next proper.bound.0 proper.bound.1 p.referenced
            (all_weaker (λ (c : Constraint). rule_refers things (d.CreateTable storage name columns constraints) c.rule) _
            (λ c h. rule_new things behind (d.CreateTable storage name columns constraints) (created_named things number storage name columns constraints whole next proper.bound.0 proper.bound.1) c.rule h) constraints proper.references);
      }

  column_added : (table : Text) (column : Column) (constraints : List Constraint) → IsNext things (d.AddColumn table column constraints) number → IsProper things (d.AddColumn table column constraints)
      → (n : TableNo) → number_of things table ≡ Some n → Parts (after things (d.AddColumn table column constraints) number)
  column_added table column constraints next proper n at =
      let found = number_of_name things table n whole at in
      let behind : Things = after things (d.AddColumn table column constraints) number in
      record {
        owned = grown_owned things number table n found.0 (Some column) constraints whole next at found.1 proper.bound.1 p.owned;
        fitting = grown_fitting things number table n found.0 (Some column) constraints whole next at found.1 proper.bound.1 p.fitting proper.defaults;
        referenced = grown_references things number table n found.0 (Some column) constraints whole next at found.1 proper.bound.1 p.referenced
            (all_weaker (λ (c : Constraint). rule_refers things (d.AddColumn table column constraints) c.rule) _
            (λ c h. rule_new things behind (d.AddColumn table column constraints) (grown_named things number table n found.0 (Some column) constraints whole next at found.1 proper.bound.1) c.rule h) constraints proper.references);
      }

  constraint_added : (table : Text) (constraint : Constraint) → IsNext things (d.AddConstraint table constraint) number → IsProper things (d.AddConstraint table constraint)
      → (n : TableNo) → number_of things table ≡ Some n → Parts (after things (d.AddConstraint table constraint) number)
  constraint_added table constraint next proper n at =
      let found = number_of_name things table n whole at in
      let free = new_one things constraint proper.bound.1 in
      let behind : Things = after things (d.AddConstraint table constraint) number in
      record {
        owned = grown_owned things number table n found.0 None (constraint ∷ []) whole next at found.1 free p.owned;
        fitting = grown_fitting things number table n found.0 None (constraint ∷ []) whole next at found.1 free p.fitting refl;
        referenced = grown_references things number table n found.0 None (constraint ∷ []) whole next at found.1 free p.referenced
            (all_weaker (λ (c : Constraint). rule_refers things (d.AddConstraint table constraint) c.rule) _
            (λ c h. rule_new things behind (d.AddConstraint table constraint) (grown_named things number table n found.0 None (constraint ∷ []) whole next at found.1 free) c.rule h) (constraint ∷ []) proper.references);
      }

  index_created : (table name : Text) (columns : List ℕ) → IsNext things (d.CreateIndex table name columns) number → IsProper things (d.CreateIndex table name columns)
      → (n : TableNo) → number_of things table ≡ Some n → Parts (after things (d.CreateIndex table name columns) number)
  index_created table name columns next proper n at =
      let found = number_of_name things table n whole at in
      let index : Constraint = record { name = name; rule = rule.Index columns } in
      let free = new_one things index proper.bound.1 in
      record {
        owned = grown_owned things number table n found.0 None (index ∷ []) whole next at found.1 free p.owned;
        fitting = grown_fitting things number table n found.0 None (index ∷ []) whole next at found.1 free p.fitting refl;
        referenced = grown_references things number table n found.0 None (index ∷ []) whole next at found.1 free p.referenced refl;
      }

  table_dropped : (name : Text) → still_referenced things (d.DropTable name) ≡ None → (n : TableNo) → number_of things name ≡ Some n → Parts (after things (d.DropTable name) number)
  table_dropped name unreferenced n at =
      let none : first_name (references_table n.0 name) things ≡ None = sym (ap (λ o. option_map_or (λ t. first_name (references_table t.0 name) things) o None) at) ∙ unreferenced in
      record {
        owned = dropped_owned things name n number whole at p.owned;
        fitting = dropped_fitting things name n number whole at p.fitting;
        referenced = dropped_references things name n number whole at p.referenced (none_named (references_table n.0 name) things none);
      }

  -- without a constraint or an index, where the other keys serve
  removed : (name : Text) (n : TableNo) (extra : (ℕ × Constraint) → Bool) → list_all extra (constraints_of things) ≡ true
      → ((c : ℕ × Constraint) (key : ForeignKey) → extra c ≡ true → c.1.rule ≡ rule.ForeignKey key → IsLeft things name n key) → Parts (without_constraint things name n)
  removed name n extra free left = record {
    owned = without_owned things name n p.owned;
    fitting = without_fitting things name n p.fitting;
    referenced = without_references things name n extra free left p.referenced;
  }

  -- the name of the parent is that of the table whose number it has
  parent_named : (n : TableNo) (t : Table) → table_numbered things n ≡ Some t → (key : ForeignKey) → number_of things key.parent ≡ Some n → bytes_eq key.parent t.name ≡ true
  parent_named n t there key its = same_choice things t.name n whole (name_of_number things n t whole there) key.parent n its ∙ itself n.0

  constraint_removed : (name : Text) (n : TableNo) (t : Table) → table_numbered things n ≡ Some t → (place : Option ℕ) → position_from (λ (c : Constraint). bytes_eq name c.name) 0 t.constraints ≡ place
      → key_referenced things t (option_map (λ at. record { table = t.number; constraint = record { 0 = at } }) place) ≡ None → Parts (without_constraint things name n)
  constraint_removed name n t there None is unreferenced =
      removed name n (is_sound_constraint things) p.referenced (λ c key extra its named t₁ there₁ has.
      let one : Some t ≡ Some t₁ = sym there ∙ there₁ in
      let same : t ≡ t₁ = cc in
      left_by_place name key.parent_columns t₁.constraints 0 (names_differ things n t₁ whole there₁)
      (λ place at. absurd (let no : None ≡ Some place = sym is ∙ ap (λ (x : Table). position_from (λ (c : Constraint). bytes_eq name c.name) 0 x.constraints) same ∙ at in cc)) has)
  constraint_removed name n t there (Some at) is unreferenced =
      removed name n (λ c. not (references_key t at c)) (none_named (references_key t at) things unreferenced) left
    where
      left : (c : ℕ × Constraint) (key : ForeignKey) → not (references_key t at c) ≡ true → c.1.rule ≡ rule.ForeignKey key → IsLeft things name n key
      left c key extra its named t₁ there₁ has =
          let one : Some t ≡ Some t₁ = sym there ∙ there₁ in
          let same : t ≡ t₁ = cc in
          let untaken : rule_takes t at (rule.ForeignKey key) ≡ false = sym (ap (rule_takes t at) its) ∙ not-true (references_key t at c) extra in
          let apart : is_at at (key_over t key.parent_columns) ≡ false = sym (ap (λ b. b && is_at at (key_over t key.parent_columns)) (parent_named n t there key named)) ∙ untaken in
          let moved : is_at at (position_from (is_key_over key.parent_columns) 0 t₁.constraints) ≡ false =
          sym (ap (λ (x : Table). is_at at (key_over x key.parent_columns)) same ∙ ap (is_at at) (position_from-zero (is_key_over key.parent_columns) t₁.constraints)) ∙ apart in
          left_by_place name key.parent_columns t₁.constraints 0 (names_differ things n t₁ whole there₁)
          (λ place found.
          let both : Some at ≡ Some place = sym is ∙ ap (λ (x : Table). position_from (λ (c : Constraint). bytes_eq name c.name) 0 x.constraints) same ∙ found in
          let places : at ≡ place = cc in
          ap (λ k. is_at k (position_from (is_key_over key.parent_columns) 0 t₁.constraints)) (sym places) ∙ moved) has

  constraint_dropped : (table name : Text) → still_referenced things (d.DropConstraint table name) ≡ None → (n : TableNo) → number_of things table ≡ Some n → Parts (without_constraint things name n)
  constraint_dropped table name unreferenced n at =
      let found = number_of_name things table n whole at in
      let named : table_named things table ≡ Some found.0 = ap (λ o. option_map_or (table_numbered things) o None) at ∙ found.1 in
      constraint_removed name n found.0 found.1 (position_from (λ (c : Constraint). bytes_eq name c.name) 0 found.0.constraints) refl
      (sym (ap (λ o. option_map_or (λ (t : Table). key_referenced things t (option_map (λ k. record { table = t.number; constraint = record { 0 = k } }) (position_from (λ (c : Constraint). bytes_eq name c.name) 0 t.constraints))) o None) named) ∙ unreferenced)

  index_dropped : (name : Text) → IsProper things (d.DropIndex name) → (n : TableNo) → Parts (without_constraint things name n)
  index_dropped name proper n =
      removed name n (is_index_named name) proper.index
      (λ c key extra its named t there has. left_by_index name key.parent_columns t.constraints (all_of_table (λ c. not (bytes_eq name c.name) || is_index c.rule) things n t there proper.index) has)

-- ---- the whole

parts_after : (things : Things) (number : ℕ) → IsWhole things → Parts things → (definition : Definition) → IsNext things definition number → IsProper things definition → still_referenced things definition ≡ None → Parts (after things definition number)
parts_after things number whole p (d.CreateTable storage name columns constraints) next proper free = created things number whole p storage name columns constraints next proper
parts_after things number whole p (d.DropTable name) next proper free =
    some_there (Parts (after things (d.DropTable name) number)) (number_of things name) proper.bound (λ n at. table_dropped things number whole p name free n at)
parts_after things number whole p (d.AddColumn table column constraints) next proper free =
    some_there (Parts (after things (d.AddColumn table column constraints) number)) (number_of things table) proper.bound.0 (λ n at. column_added things number whole p table column constraints next proper n at)
parts_after things number whole p (d.AddConstraint table constraint) next proper free =
    some_there (Parts (after things (d.AddConstraint table constraint) number)) (number_of things table) proper.bound.0 (λ n at. constraint_added things number whole p table constraint next proper n at)
parts_after things number whole p (d.DropConstraint table name) next proper free =
    some_there (Parts (after things (d.DropConstraint table name) number)) (number_of things table) proper.bound.0
    (λ n at. subst Parts (sym (ap (λ o. option_map_or (without_constraint things name) o things) at)) (constraint_dropped things number whole p table name free n at))
parts_after things number whole p (d.CreateIndex table name columns) next proper free =
    some_there (Parts (after things (d.CreateIndex table name columns) number)) (number_of things table) proper.bound.0 (λ n at. index_created things number whole p table name columns next proper n at)
parts_after things number whole p (d.DropIndex name) next proper free =
    some_there (Parts (after things (d.DropIndex name) number)) (owner_of things name) proper.bound
    (λ n at. subst Parts (sym (ap (λ o. option_map_or (without_constraint things name) o things) at)) (index_dropped things number whole p name proper n))
parts_after things number whole p (d.SetControl control) next proper free = p
parts_after things number whole p (d.SetDefaultLevel serializable) next proper free = p

pub sound_after : (things : Things) (number : ℕ) (definition : Definition) → is_sound things ≡ true → IsNext things definition number → IsProper things definition → still_referenced things definition ≡ None → is_sound (after things definition number) ≡ true
sound_after things number definition h next proper free =
    let parts = parts_of things h in
    let whole = whole_from things parts.0 in
    sound_by (after things definition number) (whole_test (after things definition number) (whole_after things number whole definition proper.bound next)) (parts_after things number whole parts.1 definition next proper free)
