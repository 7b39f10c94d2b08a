-- The maps go on answering what the list says, when things come and go.
use Rattle.std.proofs.Common.{◌≡◌, ℕ, Bool, true, false, cond, not, ◌&&◌, nat_eq, filter, List, [], ◌∷◌, ◌++◌, Option, Some, None, refl, sym, ap, ◌∙◌, if◌then◌else◌}
use Rattle.std.proofs.lemmas.List.Concat.{flat_map-append}
use Rattle.std.specs.declared.alloc.Global.{Global}
use Rattle.std.specs.declared.string.String.{String}
use Rattle.std.specs.declared.vec.Vec.{Vec}
use Rattle.std.specs.Map.{lookup}
use Rattle.std.specs.Option.{option_map, option_map_or}
use Rattle.std.specs.Str.{bytes_eq}
use Rattle.hs_base.specs.declared.numbers.TableNo.{TableNo}
use Rattle.hs_plan.specs.declared.definition.Rule.{Rule}
use Rattle.hs_plan.specs.declared.definition.Rule.TheVariants as rule
use Rattle.hs_schema.specs.declared.table.Child.{Child}
use Rattle.hs_schema.specs.declared.table.Table.{Table}
use Rattle.hs_schema.specs.declared.thing.Part.{Part}
use Rattle.hs_schema.specs.declared.thing.Part.TheVariants as part
use Rattle.hs_schema.specs.declared.thing.Thing.{Thing}
use Rattle.hs_schema.specs.Catalogue.{Text, Things, is_of, is_constraint, named, named_in, owned, owned_in, children_of, children_in, child_by, child_of, without_table, without_constraint}
use Rattle.hs_schema.specs.Kept.{IsKept, IsGrown, children_at, is_of_table, is_child, without}
use Rattle.hs_schema.specs.Texts.{texts}
use Rattle.hs_schema.proofs.Filters.{flat_map-filter}
use Rattle.hs_schema.proofs.Gone.{nothing, named_without_table, owned_without_table, named_without_constraint, owned_without_constraint}
use Rattle.hs_schema.proofs.Things.{numbered, without_own, dropped}
use Rattle.hs_schema.proofs.Whole.{whole_grown, whole_without_table, whole_without_constraint}

module _ (things : Things) (tables new_tables : List (ℕ × Table)) (numbers new_numbers owners new_owners : List (String Global × TableNo)) (children new_children : List (String Global × Vec Child Global)) (kept : IsKept things tables numbers owners children) where
  pub kept_grown : (table : Table) (name : Option Text) (more : Things) → IsGrown things table name more
      → ((m : ℕ) → lookup (nat_eq m) new_tables ≡ cond (nat_eq table.number.0 m) (Some table) (lookup (nat_eq m) tables))
      → texts new_numbers ≡ texts numbers ++ option_map_or (λ n. (n, table.number) ∷ []) name []
      → texts new_owners ≡ texts owners ++ owned more
      → ((n : Text) → children_at new_children n ≡ children_at children n ++ children_of more n)
      → IsKept (things ++ more) new_tables new_numbers new_owners new_children
  kept_grown table name more grown at_tables at_numbers at_owners at_children = record {
    by_number = λ m. at_tables m.0 ∙ ap (cond (nat_eq table.number.0 m.0) (Some table)) (kept.by_number m) ∙ numbered things more table grown.own grown.stands m;
    by_name = at_numbers ∙ ap (λ es. es ++ option_map_or (λ n. (n, table.number) ∷ []) name []) kept.by_name ∙ ap (λ es. named things ++ es) (sym grown.names) ∙ sym (flat_map-append (λ (t : Thing). named_in t.table t.part) things more);
    by_constraint = at_owners ∙ ap (λ es. es ++ owned more) kept.by_constraint ∙ sym (flat_map-append (λ (t : Thing). owned_in t.table t.part) things more);
    by_parent = λ n. at_children n ∙ ap (λ ks. ks ++ children_of more n) (kept.by_parent n) ∙ sym (flat_map-append (λ (t : Thing). children_in n t.table t.part) things more);
    whole = whole_grown things kept.whole table name more grown;
  }

  pub kept_without_table : (table : TableNo)
      → ((m : ℕ) → lookup (nat_eq m) new_tables ≡ cond (nat_eq table.0 m) None (lookup (nat_eq m) tables))
      → texts new_numbers ≡ filter (λ e. not (nat_eq table.0 e.1.0)) (texts numbers)
      → texts new_owners ≡ filter (λ e. not (nat_eq table.0 e.1.0)) (texts owners)
      → ((n : Text) → children_at new_children n ≡ filter (λ k. not (is_of_table table k)) (children_at children n))
      → IsKept (without_table things table) new_tables new_numbers new_owners new_children
  kept_without_table table at_tables at_numbers at_owners at_children = record {
    by_number = λ m. at_tables m.0 ∙ ap (cond (nat_eq table.0 m.0) None) (kept.by_number m) ∙ without_own things table m;
    by_name = at_numbers ∙ ap (filter other) kept.by_name ∙ sym (named_without_table table things);
    by_constraint = at_owners ∙ ap (filter other) kept.by_constraint ∙ sym (owned_without_table table things);
    by_parent = λ n. at_children n ∙ ap (filter (λ k. not (is_of_table table k))) (kept.by_parent n) ∙ sym (flat_map-filter (λ (t : Thing). children_in n t.table t.part) stay (λ k. not (is_of_table table k)) (λ t. keys n t.table t.part) things);
    whole = whole_without_table things kept.whole table;
  }
    where
      stay : Thing → Bool
      stay t = not (is_of table t)

      other : Text × TableNo → Bool
      other e = not (nat_eq table.0 e.1.0)

      key : (b : Bool) (child : Child) → filter (λ k. not (is_of_table table k)) (if b then child ∷ [] else []) ≡ (if not (nat_eq table.0 child.table.0) then (if b then child ∷ [] else []) else [])
      key true child = refl
      key false child = nothing (not (nat_eq table.0 child.table.0))

      by_rule : (n : Text) (its : TableNo) (own : Text) (r : Rule) → filter (λ k. not (is_of_table table k)) (child_by its own r n) ≡ (if not (nat_eq table.0 its.0) then child_by its own r n else [])
      by_rule n its own (rule.ForeignKey k) = key (bytes_eq k.parent n) (child_of its own k)
      by_rule n its own (rule.NotNull column) = nothing (not (nat_eq table.0 its.0))
      by_rule n its own (rule.PrimaryKey columns) = nothing (not (nat_eq table.0 its.0))
      by_rule n its own (rule.Unique columns) = nothing (not (nat_eq table.0 its.0))
      by_rule n its own (rule.Check condition) = nothing (not (nat_eq table.0 its.0))
      by_rule n its own (rule.Index columns) = nothing (not (nat_eq table.0 its.0))

      keys : (n : Text) (its : TableNo) (p : Part) → filter (λ k. not (is_of_table table k)) (children_in n its p) ≡ (if not (nat_eq table.0 its.0) then children_in n its p else [])
      keys n its (part.Table name storage columns) = nothing (not (nat_eq table.0 its.0))
      keys n its (part.Column column) = nothing (not (nat_eq table.0 its.0))
      keys n its (part.Constraint constraint) = by_rule n its constraint.name constraint.rule

  pub kept_without_constraint : (table : TableNo) (name : Text)
      → ((m : ℕ) → lookup (nat_eq m) new_tables ≡ (if nat_eq table.0 m then option_map (without name) (lookup (nat_eq m) tables) else lookup (nat_eq m) tables))
      → texts new_owners ≡ filter (λ e. not (nat_eq table.0 e.1.0 && bytes_eq name e.0)) (texts owners)
      → ((n : Text) → children_at new_children n ≡ filter (λ k. not (is_child table name k)) (children_at children n))
      → IsKept (without_constraint things name table) new_tables numbers new_owners new_children
  kept_without_constraint table name at_tables at_owners at_children = record {
    by_number = λ m. at_tables m.0 ∙ ap (λ o. if nat_eq table.0 m.0 then option_map (without name) o else o) (kept.by_number m) ∙ dropped things table m name;
    by_name = kept.by_name ∙ sym (named_without_constraint table name things);
    by_constraint = at_owners ∙ ap (filter other) kept.by_constraint ∙ sym (owned_without_constraint table name things);
    by_parent = λ n. at_children n ∙ ap (filter (λ k. not (is_child table name k))) (kept.by_parent n) ∙ sym (flat_map-filter (λ (t : Thing). children_in n t.table t.part) stay (λ k. not (is_child table name k)) (λ t. keys n t.table t.part) things);
    whole = whole_without_constraint things kept.whole table name;
  }
    where
      stay : Thing → Bool
      stay t = not (is_of table t && is_constraint name t.part)

      other : Text × TableNo → Bool
      other e = not (nat_eq table.0 e.1.0 && bytes_eq name e.0)

      key : (b : Bool) (child : Child) → filter (λ k. not (is_child table name k)) (if b then child ∷ [] else []) ≡ (if not (is_child table name child) then (if b then child ∷ [] else []) else [])
      key true child = refl
      key false child = nothing (not (is_child table name child))

      by_rule : (n : Text) (its : TableNo) (own : Text) (r : Rule) → filter (λ k. not (is_child table name k)) (child_by its own r n) ≡ (if not (nat_eq table.0 its.0 && bytes_eq name own) then child_by its own r n else [])
      by_rule n its own (rule.ForeignKey k) = key (bytes_eq k.parent n) (child_of its own k)
      by_rule n its own (rule.NotNull column) = nothing (not (nat_eq table.0 its.0 && bytes_eq name own))
      by_rule n its own (rule.PrimaryKey columns) = nothing (not (nat_eq table.0 its.0 && bytes_eq name own))
      by_rule n its own (rule.Unique columns) = nothing (not (nat_eq table.0 its.0 && bytes_eq name own))
      by_rule n its own (rule.Check condition) = nothing (not (nat_eq table.0 its.0 && bytes_eq name own))
      by_rule n its own (rule.Index columns) = nothing (not (nat_eq table.0 its.0 && bytes_eq name own))

      keys : (n : Text) (its : TableNo) (p : Part) → filter (λ k. not (is_child table name k)) (children_in n its p) ≡ (if not (nat_eq table.0 its.0 && is_constraint name p) then children_in n its p else [])
      keys n its (part.Table own storage columns) = nothing (not (nat_eq table.0 its.0 && false))
      keys n its (part.Column column) = nothing (not (nat_eq table.0 its.0 && false))
      keys n its (part.Constraint constraint) = by_rule n its constraint.name constraint.rule
