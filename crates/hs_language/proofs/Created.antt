-- A catalogue behind CREATE TABLE.
use Rattle.std.proofs.Common.{◌≡◌, ℕ, ◌<◌, Bool, true, false, cond, nat_eq, List, [], ◌∷◌, ◌++◌, map, Option, Some, None, is_some, refl, sym, ap, ◌∙◌, if◌then◌else◌}
use Rattle.std.proofs.lemmas.Bool.{and_from, false_from_ne_true}
use Rattle.std.proofs.lemmas.List.{append-nil}
use Rattle.std.proofs.lemmas.List.Concat.{flat_map-append}
use Rattle.std.specs.List.{All, flat_map, list_all}
use Rattle.std.specs.Map.{lookup}
use Rattle.std.specs.Option.{option_map_or, option_or}
use Rattle.std.specs.Str.{bytes_eq}
use Rattle.hs_ast.specs.declared.definition.Storage.{Storage}
use Rattle.hs_base.specs.declared.numbers.TableNo.{TableNo}
use Rattle.hs_plan.specs.declared.definition.Column.{Column}
use Rattle.hs_plan.specs.declared.definition.Constraint.{Constraint}
use Rattle.hs_schema.specs.Catalogue.{AreNew, Text, Things, columns_in, constraints_in, constraints_made, made, named, named_in, number_of, table_made, table_numbered}
use Rattle.hs_schema.specs.Whole.{IsWhole}
use Rattle.hs_schema.specs.declared.table.Table.{Table}
use Rattle.hs_schema.specs.declared.thing.Part.TheVariants as part
use Rattle.hs_schema.specs.declared.thing.Thing.{Thing}
use Rattle.hs_schema.proofs.After.{after_create}
use Rattle.hs_schema.proofs.Lists.{same_text}
use Rattle.hs_schema.proofs.Made.{no_columns, no_names}
use Rattle.hs_schema.proofs.Things.{named_there}
use Rattle.hs_sentences.specs.Violations.{constraints_of}
use Rattle.hs_language.specs.Sound.{has_fitting_default, is_owned, is_sound_constraint, is_sound_rule}
use Rattle.hs_language.specs.Added.{constraints_named}
use Rattle.hs_language.proofs.Grown.{made_sound}
use Rattle.hs_language.proofs.Keys.{kept_with_more, rule_kept}
use Rattle.hs_language.proofs.Lists.{all_both, all_weaker}
use Rattle.hs_language.proofs.Tables.{all_made, constraints_if, itself, number_below}

lookup_push : (es : List (Text × TableNo)) (name other : Text) (table : TableNo)
    → lookup (bytes_eq other) (es ++ (name, table) ∷ []) ≡ option_or (lookup (bytes_eq other) es) (if bytes_eq other name then Some table else None)
lookup_push [] name other table = refl
lookup_push (e ∷ es) name other table = by (bytes_eq other e.0) (lookup_push es name other table)
  where
    by : (b : Bool) → lookup (bytes_eq other) (es ++ (name, table) ∷ []) ≡ option_or (lookup (bytes_eq other) es) (if bytes_eq other name then Some table else None)
        → cond b (Some e.1) (lookup (bytes_eq other) (es ++ (name, table) ∷ [])) ≡ option_or (cond b (Some e.1) (lookup (bytes_eq other) es)) (if bytes_eq other name then Some table else None)
    by true rest = refl
    by false rest = rest

module _ (things : Things) (number : ℕ) (storage : Storage) (name : Text) (columns : List Column) (constraints : List Constraint)
    (whole : IsWhole things) (next : All (λ t. t.number < number) things) (new : number_of things name ≡ None) (free : AreNew things constraints) where
  abbrev after : Things
  after = things ++ table_made number storage name columns constraints

  abbrev its : TableNo
  its = record { 0 = number }

  abbrev created : Table
  created = record { name = name; number = its; storage = storage; columns = columns; constraints = constraints }

  tables : (m : TableNo) → table_numbered after m ≡ (if nat_eq number m.0 then Some created else table_numbered things m)
  tables m = after_create things number whole.after_table storage name columns constraints new free next m

  here : table_numbered after its ≡ Some created
  here = tables its ∙ ap (λ b. if b then Some created else table_numbered things its) (itself number)

  names : named after ≡ named things ++ (name, its) ∷ []
  names = flat_map-append (λ (t : Thing). named_in t.table t.part) things (table_made number storage name columns constraints) ∙ ap (λ es. named things ++ (name, its) ∷ es) (no_names number its constraints)

  numbers : (other : Text) → number_of after other ≡ option_or (number_of things other) (if bytes_eq other name then Some its else None)
  numbers other = ap (lookup (bytes_eq other)) names ∙ lookup_push (named things) name other its

  -- ---- constraints of tables

  apart : (other : Text) (m : TableNo) → number_of things other ≡ Some m → bytes_eq other name ≡ false
  apart other m at = false_from_ne_true (bytes_eq other name) (λ h. let no : None ≡ Some m = sym new ∙ ap (number_of things) (sym (same_text other name h)) ∙ at in cc)

  pub created_named : (other : Text) → constraints_named after other ≡ constraints_named things other ++ (if bytes_eq other name then constraints else [])
  created_named other = ap (λ o. constraints_if (option_map_or (table_numbered after) o None)) (numbers other) ∙ by (number_of things other) refl
    where
      fresh : (b : Bool) → constraints_if (option_map_or (table_numbered after) (if b then Some its else None) None) ≡ (if b then constraints else [])
      fresh true = ap constraints_if here
      fresh false = refl

      by : (o : Option TableNo) → number_of things other ≡ o
          → constraints_if (option_map_or (table_numbered after) (option_or o (if bytes_eq other name then Some its else None)) None) ≡ constraints_if (option_map_or (table_numbered things) o None) ++ (if bytes_eq other name then constraints else [])
      by None e = fresh (bytes_eq other name)
      by (Some m) e =
          ap constraints_if (tables m)
          ∙ ap (λ b. constraints_if (if b then Some created else table_numbered things m)) (number_below things number next whole.after_table m (named_there things other m e))
          ∙ sym (append-nil (constraints_if (table_numbered things m)))
          ∙ ap (λ b. constraints_if (table_numbered things m) ++ (if b then constraints else [])) (sym (apart other m e))

  -- ---- things

  still : (m : TableNo) → is_some (table_numbered things m) ≡ true → is_some (table_numbered after m) ≡ true
  still m h = ap is_some (tables m) ∙ by (nat_eq number m.0)
    where
      by : (b : Bool) → is_some (if b then Some created else table_numbered things m) ≡ true
      by true = refl
      by false = h

  pub created_owned : list_all (is_owned things) things ≡ true → list_all (is_owned after) after ≡ true
  created_owned h =
      all_both (is_owned after) things (table_made number storage name columns constraints) (all_weaker (is_owned things) (is_owned after) (λ t owned. still t.table owned) things h)
      (and_from (is_owned after (made number its (part.Table name storage columns))) (list_all (is_owned after) (constraints_made number its constraints)) (ap is_some here)
      (all_made (is_owned after) number its (λ what. ap is_some here) constraints))

  pub created_fitting : list_all has_fitting_default (flat_map (λ t. columns_in t.part) things) ≡ true → list_all has_fitting_default columns ≡ true → list_all has_fitting_default (flat_map (λ t. columns_in t.part) after) ≡ true
  created_fitting h fits =
      ap (list_all has_fitting_default) (flat_map-append (λ (t : Thing). columns_in t.part) things (table_made number storage name columns constraints))
      ∙ all_both has_fitting_default (flat_map (λ (t : Thing). columns_in t.part) things) (flat_map (λ (t : Thing). columns_in t.part) (table_made number storage name columns constraints)) h
      (all_both has_fitting_default columns (flat_map (λ (t : Thing). columns_in t.part) (constraints_made number its constraints)) fits (ap (list_all has_fitting_default) (no_columns number its constraints)))

  pub created_references : list_all (is_sound_constraint things) (constraints_of things) ≡ true → list_all (λ (c : Constraint). is_sound_rule after c.rule) constraints ≡ true
      → list_all (is_sound_constraint after) (constraints_of after) ≡ true
  created_references h fits =
      ap (list_all (is_sound_constraint after)) (flat_map-append (λ (t : Thing). map (λ c. (t.table.0, c)) (constraints_in t.part)) things (table_made number storage name columns constraints))
      ∙ all_both (is_sound_constraint after) (constraints_of things) (constraints_of (table_made number storage name columns constraints)) old (made_sound (is_sound_constraint after) number its constraints fits)
    where
      old : list_all (is_sound_constraint after) (constraints_of things) ≡ true
      old = all_weaker (is_sound_constraint things) (is_sound_constraint after)
          (λ c so. rule_kept things after c.1.rule (λ key is held. kept_with_more things after (λ other. if bytes_eq other name then constraints else []) created_named key held) so) (constraints_of things) h
