-- A catalogue behind a definition that adds a column or none and constraints to a table.
use Rattle.std.proofs.Common.{◌≡◌, ℕ, ◌≤◌, Bool, true, false, nat_eq, List, [], ◌∷◌, ◌++◌, ◌&&◌, map, Option, Some, None, is_some, refl, sym, ap, ◌∙◌, if◌then◌else◌}
use Rattle.std.proofs.lemmas.Bool.{and_from, and_parts, false_from_ne_true}
use Rattle.std.proofs.lemmas.List.{append-nil}
use Rattle.std.proofs.lemmas.List.Concat.{flat_map-append}
use Rattle.std.specs.List.{All, flat_map, list_all}
use Rattle.std.specs.Map.{lookup}
use Rattle.std.specs.Option.{option_map_or}
use Rattle.std.specs.Str.{bytes_eq}
use Rattle.hs_base.specs.declared.numbers.TableNo.{TableNo}
use Rattle.hs_plan.specs.declared.definition.Column.{Column}
use Rattle.hs_plan.specs.declared.definition.Constraint.{Constraint}
use Rattle.hs_schema.specs.Catalogue.{AreNew, Text, Things, columns_in, constraints_in, constraints_made, named, named_in, number_of, parts_made, table_numbered, with_more}
use Rattle.hs_schema.specs.Kept.{grown}
use Rattle.hs_schema.specs.Whole.{IsWhole}
use Rattle.hs_schema.specs.declared.table.Table.{Table}
use Rattle.hs_schema.specs.declared.thing.Thing.{Thing}
use Rattle.hs_schema.proofs.After.{after_alter}
use Rattle.hs_schema.proofs.Lists.{same_text}
use Rattle.hs_schema.proofs.Made.{grown_parts, no_columns}
use Rattle.hs_schema.proofs.Things.{same_number}
use Rattle.hs_sentences.specs.Violations.{constraints_of}
use Rattle.hs_language.specs.Sound.{has_fitting_default, is_owned, is_sound_constraint, is_sound_rule}
use Rattle.hs_language.specs.Added.{constraints_named}
use Rattle.hs_language.proofs.Keys.{kept_with_more, rule_kept}
use Rattle.hs_language.proofs.Lists.{all_both, all_weaker}
use Rattle.hs_language.proofs.Tables.{all_parts, constraints_if, same_choice}

-- the constraints of those that were made
pub made_sound : (q : (ℕ × Constraint) → Bool) (number : ℕ) (table : TableNo) (constraints : List Constraint) → list_all (λ c. q (table.0, c)) constraints ≡ true → list_all q (constraints_of (constraints_made number table constraints)) ≡ true
made_sound q number table [] h = refl
made_sound q number table (c ∷ cs) h = by (made_sound q number table cs) h
  where
    by : (list_all (λ x. q (table.0, x)) cs ≡ true → list_all q (constraints_of (constraints_made number table cs)) ≡ true) → (q (table.0, c) && list_all (λ x. q (table.0, x)) cs) ≡ true → (q (table.0, c) && list_all q (constraints_of (constraints_made number table cs))) ≡ true
    by rest h = let parts = and_parts (q (table.0, c)) _ h in and_from (q (table.0, c)) _ parts.0 (rest parts.1)

module _ (things : Things) (number : ℕ) (table : Text) (n : TableNo) (found : Table) (column : Option Column) (constraints : List Constraint)
    (whole : IsWhole things) (next : All (λ t. t.number ≤ number) things) (at : number_of things table ≡ Some n) (there : table_numbered things n ≡ Some found) (free : AreNew things constraints) where
  abbrev after : Things
  after = with_more things table (parts_made number column constraints)

  shown : after ≡ things ++ parts_made number column constraints n
  shown = ap (λ o. option_map_or (λ t. things ++ parts_made number column constraints t) o things) at

  tables : (m : TableNo) → table_numbered after m ≡ (if nat_eq n.0 m.0 then Some (grown found column constraints) else table_numbered things m)
  tables m = after_alter things number whole.after_table table n found column constraints at there free next m

  no_names : named (things ++ parts_made number column constraints n) ≡ named things
  no_names =
      flat_map-append (λ (t : Thing). named_in t.table t.part) things (parts_made number column constraints n)
      ∙ ap (λ es. named things ++ es) (grown_parts things n found number column constraints there free next whole.after_table).names
      ∙ append-nil (named things)

  numbers : (name : Text) → number_of after name ≡ number_of things name
  numbers name = ap (λ ts. number_of ts name) shown ∙ ap (lookup (bytes_eq name)) no_names

  -- ---- constraints of tables

  unnamed : (name : Text) → number_of things name ≡ None → bytes_eq name table ≡ false
  unnamed name none = false_from_ne_true (bytes_eq name table) (λ h. let no : None ≡ Some n = sym none ∙ ap (number_of things) (same_text name table h) ∙ at in cc)

  pub grown_named : (name : Text) → constraints_named after name ≡ constraints_named things name ++ (if bytes_eq name table then constraints else [])
  grown_named name = ap (λ o. constraints_if (option_map_or (table_numbered after) o None)) (numbers name) ∙ by (number_of things name) refl
    where
      more : Bool → List Constraint
      more b = if b then constraints else []

      here : (m : TableNo) (c : Bool) → nat_eq n.0 m.0 ≡ c → constraints_if (if c then Some (grown found column constraints) else table_numbered things m) ≡ constraints_if (table_numbered things m) ++ (if c then constraints else [])
      here m true e = ap (λ o. constraints_if o ++ constraints) (sym (ap (table_numbered things) (sym (same_number n m e)) ∙ there))
      here m false e = sym (append-nil (constraints_if (table_numbered things m)))

      by : (o : Option TableNo) → number_of things name ≡ o → constraints_if (option_map_or (table_numbered after) o None) ≡ constraints_if (option_map_or (table_numbered things) o None) ++ (if bytes_eq name table then constraints else [])
      by None e = sym (ap (λ b. if b then constraints else []) (unnamed name e))
      by (Some m) e =
          ap constraints_if (tables m) ∙ here m (nat_eq n.0 m.0) refl
          ∙ ap (λ b. constraints_if (table_numbered things m) ++ (if b then constraints else [])) (sym (same_choice things table n whole at name m e))

  -- ---- things

  still : (m : TableNo) → is_some (table_numbered things m) ≡ true → is_some (table_numbered after m) ≡ true
  still m h = ap is_some (tables m) ∙ by (nat_eq n.0 m.0)
    where
      by : (b : Bool) → is_some (if b then Some (grown found column constraints) else table_numbered things m) ≡ true
      by true = refl
      by false = h

  pub grown_owned : list_all (is_owned things) things ≡ true → list_all (is_owned after) after ≡ true
  grown_owned h =
      ap (list_all (is_owned after)) shown
      ∙ all_both (is_owned after) things (parts_made number column constraints n) (all_weaker (is_owned things) (is_owned after) (λ t owned. still t.table owned) things h)
      (all_parts (is_owned after) number n (λ what. still n (ap is_some there)) column constraints)

  pub grown_fitting : list_all has_fitting_default (flat_map (λ t. columns_in t.part) things) ≡ true → list_all has_fitting_default (option_map_or (λ c. c ∷ []) column []) ≡ true
      → list_all has_fitting_default (flat_map (λ t. columns_in t.part) after) ≡ true
  grown_fitting h new =
      ap (λ ts. list_all has_fitting_default (flat_map (λ (t : Thing). columns_in t.part) ts)) shown
      ∙ ap (list_all has_fitting_default) (flat_map-append (λ (t : Thing). columns_in t.part) things (parts_made number column constraints n))
      ∙ all_both has_fitting_default (flat_map (λ (t : Thing). columns_in t.part) things) (flat_map (λ (t : Thing). columns_in t.part) (parts_made number column constraints n)) h (by column new)
    where
      by : (o : Option Column) → list_all has_fitting_default (option_map_or (λ c. c ∷ []) o []) ≡ true → list_all has_fitting_default (flat_map (λ (t : Thing). columns_in t.part) (parts_made number o constraints n)) ≡ true
      by None new = ap (list_all has_fitting_default) (no_columns number n constraints)
      by (Some c) new = ap (λ cs. list_all has_fitting_default (c ∷ cs)) (no_columns number n constraints) ∙ new

  pub grown_references : list_all (is_sound_constraint things) (constraints_of things) ≡ true → list_all (λ (c : Constraint). is_sound_rule after c.rule) constraints ≡ true
      → list_all (is_sound_constraint after) (constraints_of after) ≡ true
  grown_references h new =
      ap (λ ts. list_all (is_sound_constraint after) (constraints_of ts)) shown
      ∙ ap (list_all (is_sound_constraint after)) (flat_map-append (λ (t : Thing). map (λ c. (t.table.0, c)) (constraints_in t.part)) things (parts_made number column constraints n))
      ∙ all_both (is_sound_constraint after) (constraints_of things) (constraints_of (parts_made number column constraints n)) old (by column)
    where
      old : list_all (is_sound_constraint after) (constraints_of things) ≡ true
      old = all_weaker (is_sound_constraint things) (is_sound_constraint after)
          (λ c so. rule_kept things after c.1.rule (λ key is held. kept_with_more things after (λ name. if bytes_eq name table then constraints else []) grown_named key held) so) (constraints_of things) h

      by : (o : Option Column) → list_all (is_sound_constraint after) (constraints_of (parts_made number o constraints n)) ≡ true
      by None = made_sound (is_sound_constraint after) number n constraints new
      by (Some c) = made_sound (is_sound_constraint after) number n constraints new
