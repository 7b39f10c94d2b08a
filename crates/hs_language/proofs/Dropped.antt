-- A catalogue behind DROP TABLE.
use Rattle.std.proofs.Common.{◌≡◌, ℕ, ◌==◌, Bool, true, false, cond, not, ◌&&◌, nat_eq, filter, length, List, [], ◌∷◌, map, Option, Some, None, is_some, refl, sym, ap, ◌∙◌, if◌then◌else◌}
use Rattle.std.proofs.lemmas.Bool.{and_parts, not-true}
use Rattle.std.specs.List.{flat_map, list_all}
use Rattle.std.specs.Map.{lookup}
use Rattle.std.specs.Option.{option_map_or}
use Rattle.std.specs.Str.{bytes_eq}
use Rattle.hs_base.specs.declared.numbers.TableNo.{TableNo}
use Rattle.hs_plan.specs.declared.definition.Constraint.{Constraint}
use Rattle.hs_schema.specs.Catalogue.{Text, Things, columns_in, constraints_in, is_of, named, number_of, table_numbered, without_table}
use Rattle.hs_schema.specs.Whole.{IsWhole}
use Rattle.hs_schema.specs.declared.thing.Thing.{Thing}
use Rattle.hs_schema.proofs.After.{after_drop}
use Rattle.hs_schema.proofs.Gone.{named_without_table}
use Rattle.hs_sentences.specs.Violations.{constraints_of}
use Rattle.hs_language.specs.Definitions.{references_table, rule_names}
use Rattle.hs_language.specs.Sound.{has_fitting_default, is_owned, is_sound_constraint, is_sound_rule}
use Rattle.hs_language.specs.Added.{constraints_named}
use Rattle.hs_language.specs.Proper.{has_key_over}
use Rattle.hs_language.proofs.Keys.{rule_kept}
use Rattle.hs_language.proofs.Lists.{all_and, all_filtered, all_mapped, all_unmapped, all_weaker, flat_filtered}
use Rattle.hs_language.proofs.Tables.{constraints_if, same_choice, turned}

-- a name is found as before, where its entry stays
lookup_stays : (n : TableNo) (other : Text) (es : List (Text × TableNo)) → ((m : TableNo) → lookup (bytes_eq other) es ≡ Some m → nat_eq n.0 m.0 ≡ false)
    → lookup (bytes_eq other) (filter (λ (e : Text × TableNo). not (nat_eq n.0 e.1.0)) es) ≡ lookup (bytes_eq other) es
lookup_stays n other [] apart = refl
lookup_stays n other (e ∷ es) apart = by (bytes_eq other e.0) refl (λ so. lookup_stays n other es so) apart
  where
    gone : (c : Bool) → bytes_eq other e.0 ≡ false → lookup (bytes_eq other) (filter (λ (x : Text × TableNo). not (nat_eq n.0 x.1.0)) es) ≡ lookup (bytes_eq other) es
        → lookup (bytes_eq other) (cond c (e ∷ filter (λ (x : Text × TableNo). not (nat_eq n.0 x.1.0)) es) (filter (λ (x : Text × TableNo). not (nat_eq n.0 x.1.0)) es)) ≡ lookup (bytes_eq other) es
    gone true p same = ap (λ d. cond d (Some e.1) (lookup (bytes_eq other) (filter (λ (x : Text × TableNo). not (nat_eq n.0 x.1.0)) es))) p ∙ same
    gone false p same = same

    by : (b : Bool) → bytes_eq other e.0 ≡ b
        → (((m : TableNo) → lookup (bytes_eq other) es ≡ Some m → nat_eq n.0 m.0 ≡ false) → lookup (bytes_eq other) (filter (λ (x : Text × TableNo). not (nat_eq n.0 x.1.0)) es) ≡ lookup (bytes_eq other) es)
        → ((m : TableNo) → cond b (Some e.1) (lookup (bytes_eq other) es) ≡ Some m → nat_eq n.0 m.0 ≡ false)
        → lookup (bytes_eq other) (cond (not (nat_eq n.0 e.1.0)) (e ∷ filter (λ (x : Text × TableNo). not (nat_eq n.0 x.1.0)) es) (filter (λ (x : Text × TableNo). not (nat_eq n.0 x.1.0)) es)) ≡ cond b (Some e.1) (lookup (bytes_eq other) es)
    by true p more apart =
        ap (λ d. lookup (bytes_eq other) (cond (not d) (e ∷ filter (λ (x : Text × TableNo). not (nat_eq n.0 x.1.0)) es) (filter (λ (x : Text × TableNo). not (nat_eq n.0 x.1.0)) es))) (apart e.1 refl)
        ∙ ap (λ d. cond d (Some e.1) (lookup (bytes_eq other) (filter (λ (x : Text × TableNo). not (nat_eq n.0 x.1.0)) es))) p
    by false p more apart = gone (not (nat_eq n.0 e.1.0)) p (more apart)

abbrev both : Things → ℕ → Text → (ℕ × Constraint) → Bool
both things table name c = is_sound_constraint things c && not (references_table table name c)

module _ (things : Things) (name : Text) (n : TableNo) (number : ℕ) (whole : IsWhole things) (at : number_of things name ≡ Some n) where
  abbrev after : Things
  after = option_map_or (without_table things) (number_of things name) things

  shown : after ≡ without_table things n
  shown = ap (λ o. option_map_or (without_table things) o things) at

  tables : (m : TableNo) → table_numbered after m ≡ (if nat_eq n.0 m.0 then None else table_numbered things m)
  tables m = after_drop things name n m number at

  numbers : (other : Text) → bytes_eq other name ≡ false → number_of after other ≡ number_of things other
  numbers other h =
      ap (λ ts. number_of ts other) shown ∙ ap (lookup (bytes_eq other)) (named_without_table n things)
      ∙ lookup_stays n other (named things) (λ m e. sym (same_choice things name n whole at other m e) ∙ h)

  pub dropped_named : (other : Text) → bytes_eq other name ≡ false → constraints_named after other ≡ constraints_named things other
  dropped_named other h = ap (λ o. constraints_if (option_map_or (table_numbered after) o None)) (numbers other h) ∙ by (number_of things other) refl
    where
      by : (o : Option TableNo) → number_of things other ≡ o → constraints_if (option_map_or (table_numbered after) o None) ≡ constraints_if (option_map_or (table_numbered things) o None)
      by None e = refl
      by (Some m) e = ap constraints_if (tables m ∙ ap (λ b. if b then None else table_numbered things m) (sym (same_choice things name n whole at other m e) ∙ h))

  pub dropped_owned : list_all (is_owned things) things ≡ true → list_all (is_owned after) after ≡ true
  dropped_owned h =
      ap (list_all (is_owned after)) shown
      ∙ all_filtered (λ (t : Thing). not (is_of n t)) (is_owned things) (is_owned after)
      (λ t keeps owned. ap is_some (tables t.table ∙ ap (λ b. if b then None else table_numbered things t.table) (not-true (nat_eq n.0 t.table.0) keeps)) ∙ owned) things h

  pub dropped_fitting : list_all has_fitting_default (flat_map (λ t. columns_in t.part) things) ≡ true → list_all has_fitting_default (flat_map (λ t. columns_in t.part) after) ≡ true
  dropped_fitting h =
      ap (λ ts. list_all has_fitting_default (flat_map (λ (t : Thing). columns_in t.part) ts)) shown
      ∙ flat_filtered (λ (t : Thing). columns_in t.part) (λ (t : Thing). not (is_of n t)) has_fitting_default has_fitting_default (λ t keeps so. so) things h

  -- a foreign key of another table doesn't reference this one
  pub dropped_references : list_all (is_sound_constraint things) (constraints_of things) ≡ true → list_all (λ c. not (references_table n.0 name c)) (constraints_of things) ≡ true
      → list_all (is_sound_constraint after) (constraints_of after) ≡ true
  dropped_references h free =
      ap (λ ts. list_all (is_sound_constraint after) (constraints_of ts)) shown
      ∙ flat_filtered (λ (t : Thing). map (λ c. (t.table.0, c)) (constraints_in t.part)) (λ (t : Thing). not (is_of n t)) (both things n.0 name) (is_sound_constraint after)
      (λ t keeps so. all_mapped (is_sound_constraint after) (λ c. (t.table.0, c)) (constraints_in t.part)
      (all_weaker (λ c. both things n.0 name (t.table.0, c)) (λ c. is_sound_constraint after (t.table.0, c)) (λ c held. one t keeps c held) (constraints_in t.part) (all_unmapped (both things n.0 name) (λ c. (t.table.0, c)) (constraints_in t.part) so)))
      things (all_and (is_sound_constraint things) (λ c. not (references_table n.0 name c)) (constraints_of things) h free)
    where
      one : (t : Thing) → not (is_of n t) ≡ true → (c : Constraint) → (is_sound_constraint things (t.table.0, c) && not (references_table n.0 name (t.table.0, c))) ≡ true → is_sound_rule after c.rule ≡ true
      one t keeps c held =
          let parts = and_parts (is_sound_constraint things (t.table.0, c)) (not (references_table n.0 name (t.table.0, c))) held in
          let other : (t.table.0 == n.0) ≡ false = turned t.table.0 n.0 ∙ not-true (nat_eq n.0 t.table.0) keeps in
          let unnamed : rule_names name c.rule ≡ false = sym (ap (λ b. not b && rule_names name c.rule) other) ∙ not-true (references_table n.0 name (t.table.0, c)) parts.1 in
          rule_kept things after c.rule
          (λ key is referenced. ap (λ cs. (length key.columns == length key.parent_columns) && has_key_over cs key.parent_columns) (dropped_named key.parent (sym (ap (rule_names name) is) ∙ unnamed)) ∙ referenced)
          parts.0
