-- A catalogue stays whole when things come and go.
use Rattle.std.proofs.Common.{◌≡◌, ◌≤◌, false, not, ◌&&◌, nat_eq, [], ◌∷◌, ◌++◌, Option, Some, None, refl, sym, ap, ◌∙◌, subst}
use Rattle.std.proofs.lemmas.Cmp.{nat_eq_equiv}
use Rattle.std.proofs.lemmas.List.{append-nil, map-append}
use Rattle.std.proofs.lemmas.List.Concat.{flat_map-append}
use Rattle.std.proofs.lemmas.List.Elements.{All-append, All-filter}
use Rattle.std.proofs.lemmas.Map.Keys.{IsDistinct-push}
use Rattle.std.specs.List.{IsDistinct, list_any}
use Rattle.std.specs.Option.{option_map_or}
use Rattle.std.specs.Str.{bytes_eq}
use Rattle.hs_base.specs.declared.numbers.TableNo.{TableNo}
use Rattle.hs_schema.specs.declared.table.Table.{Table}
use Rattle.hs_schema.specs.declared.thing.Thing.{Thing}
use Rattle.hs_schema.specs.Catalogue.{Text, Things, is_of, is_constraint, number_of, named, named_in, owned, owned_in, without_table, without_constraint}
use Rattle.hs_schema.specs.Kept.{IsGrown}
use Rattle.hs_schema.specs.Whole.{IsWhole, names, numbers}
use Rattle.hs_schema.proofs.Distinct.{distinct-filter, ascends-filter, ascends-append, names-push, free_distinct}
use Rattle.hs_schema.proofs.Gone.{named_without_table, owned_without_table, named_without_constraint, owned_without_constraint}

module _ (things : Things) (whole : IsWhole things) where
  pub whole_grown : (table : Table) (name : Option Text) (more : Things) → IsGrown things table name more → IsWhole (things ++ more)
  whole_grown table name more grown = record {
    ascending = ascends-append things more whole.ascending grown.ascending grown.behind;
    after_table = All-append (λ (t : Thing). t.table.0 ≤ t.number) things more whole.after_table grown.in_order;
    table_names = subst (λ es. IsDistinct bytes_eq (names es)) (sym (both_named ∙ ap (λ es. named things ++ es) grown.names)) (by_name name grown.new);
    table_numbers = subst (λ es. IsDistinct nat_eq (numbers es)) (sym (both_named ∙ ap (λ es. named things ++ es) grown.names)) (by_number name grown.unused);
    constraint_names = subst (λ es. IsDistinct bytes_eq (names es)) (sym (flat_map-append (λ (t : Thing). owned_in t.table t.part) things more)) (free_distinct more (owned things) whole.constraint_names grown.free);
  }
    where
      both_named : named (things ++ more) ≡ named things ++ named more
      both_named = flat_map-append (λ (t : Thing). named_in t.table t.part) things more

      by_name : (name : Option Text) → ((n : Text) → name ≡ Some n → number_of things n ≡ None) → IsDistinct bytes_eq (names (named things ++ option_map_or (λ n. (n, table.number) ∷ []) name []))
      by_name None new = subst (λ es. IsDistinct bytes_eq (names es)) (sym (append-nil (named things))) whole.table_names
      by_name (Some n) new = names-push (named things) n table.number whole.table_names (new n refl)

      by_number : (name : Option Text) → ((n : Text) → name ≡ Some n → list_any (nat_eq table.number.0) (numbers (named things)) ≡ false) → IsDistinct nat_eq (numbers (named things ++ option_map_or (λ n. (n, table.number) ∷ []) name []))
      by_number None unused = subst (λ es. IsDistinct nat_eq (numbers es)) (sym (append-nil (named things))) whole.table_numbers
      by_number (Some n) unused =
          subst (IsDistinct nat_eq) (sym (map-append (λ (e : Text × TableNo). e.1.0) (named things) ((n, table.number) ∷ []))) (IsDistinct-push nat_eq_equiv (numbers (named things)) table.number.0 whole.table_numbers (unused n refl))

  pub whole_without_table : (table : TableNo) → IsWhole (without_table things table)
  whole_without_table table = record {
    ascending = ascends-filter (λ t. not (is_of table t)) things whole.ascending;
    after_table = All-filter (λ t. not (is_of table t)) (λ (t : Thing). t.table.0 ≤ t.number) things whole.after_table;
    table_names = subst (λ es. IsDistinct bytes_eq (names es)) (sym (named_without_table table things)) (distinct-filter bytes_eq (λ (e : Text × TableNo). e.0) (λ e. not (nat_eq table.0 e.1.0)) (named things) whole.table_names);
    table_numbers = subst (λ es. IsDistinct nat_eq (numbers es)) (sym (named_without_table table things)) (distinct-filter nat_eq (λ (e : Text × TableNo). e.1.0) (λ e. not (nat_eq table.0 e.1.0)) (named things) whole.table_numbers);
    constraint_names = subst (λ es. IsDistinct bytes_eq (names es)) (sym (owned_without_table table things)) (distinct-filter bytes_eq (λ (e : Text × TableNo). e.0) (λ e. not (nat_eq table.0 e.1.0)) (owned things) whole.constraint_names);
  }

  pub whole_without_constraint : (table : TableNo) (name : Text) → IsWhole (without_constraint things name table)
  whole_without_constraint table name = record {
    ascending = ascends-filter (λ t. not (is_of table t && is_constraint name t.part)) things whole.ascending;
    after_table = All-filter (λ t. not (is_of table t && is_constraint name t.part)) (λ (t : Thing). t.table.0 ≤ t.number) things whole.after_table;
    table_names = subst (λ es. IsDistinct bytes_eq (names es)) (sym (named_without_constraint table name things)) whole.table_names;
    table_numbers = subst (λ es. IsDistinct nat_eq (numbers es)) (sym (named_without_constraint table name things)) whole.table_numbers;
    constraint_names = subst (λ es. IsDistinct bytes_eq (names es)) (sym (owned_without_constraint table name things)) (distinct-filter bytes_eq (λ (e : Text × TableNo). e.0) (λ e. not (nat_eq table.0 e.1.0 && bytes_eq name e.0)) (owned things) whole.constraint_names);
  }
