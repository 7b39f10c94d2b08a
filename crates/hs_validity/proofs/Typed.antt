-- The foreign keys that statements are told of have the types and defaults of their own columns.
use Rattle.std.proofs.Common.{◌≡◌, inl, inr, ℕ, Bool, true, false, List, [], ◌∷◌, find, Option, None, Some, refl, sym, ap, subst, ◌∙◌}
use Rattle.std.specs.Prelude.{if◌then◌else◌}
use Rattle.std.specs.List.{Contains, flat_map, list_all}
use Rattle.std.specs.Map.{lookup}
use Rattle.std.specs.Option.{option_map_or, unwrap_or}
use Rattle.std.specs.Str.{bytes_eq}
use Rattle.hs_base.specs.declared.numbers.TableNo.{TableNo}
use Rattle.hs_plan.specs.declared.definition.Column.{Column}
use Rattle.hs_plan.specs.declared.definition.Constraint.{Constraint}
use Rattle.hs_plan.specs.declared.definition.Rule.{Rule}
use Rattle.hs_plan.specs.declared.definition.Rule.TheVariants as rule
use Rattle.hs_schema.specs.Catalogue.{Text, Things, children_of, columns_in, is_of, is_table, own, table_numbered}
use Rattle.hs_schema.specs.declared.table.Child.{Child}
use Rattle.hs_schema.specs.declared.table.Table.{Table}
use Rattle.hs_schema.specs.declared.thing.Thing.{Thing}
use Rattle.hs_rel.proofs.Selecting.{at_head, from_filter, head_or_tail, in_tail, nothing_in}
use Rattle.hs_actions.specs.declared.reference.Reference.{Reference}
use Rattle.hs_actions.specs.Referencing.{Keys, is, keys_on}
use Rattle.hs_references.specs.Referenced.{by_constraint, by_rule, child_reference, named_in, reference_of, references_on}
use Rattle.hs_language.specs.Outcomes.{keys_at, keys_in}
use Rattle.hs_language.specs.Sound.{has_fitting_default}
use Rattle.hs_language.specs.Validity.{columns_of}
use Rattle.hs_validity.proofs.Fitting.{IsTyped}
use Rattle.hs_validity.proofs.Lists.{all_at, all_from, in_flat, to_flat}
use Rattle.hs_validity.proofs.Standing.{found_in}

-- ---- columns

-- the columns of a table that is there
columns_are : (things : Things) (number : TableNo) (t : Table) → table_numbered things number ≡ Some t → columns_of things number.0 ≡ t.columns
columns_are things number t found = ap (λ (o : Option Table). option_map_or (λ (x : Table). x.columns) o []) found

-- their defaults fit
pub columns_fitting : (things : Things) → list_all has_fitting_default (flat_map (λ (t : Thing). columns_in t.part) things) ≡ true → (table : ℕ) → list_all has_fitting_default (columns_of things table) ≡ true
columns_fitting things all table = by (table_numbered things number) refl
  where
    number : TableNo
    number = record { 0 = table }

    by : (o : Option Table) → table_numbered things (record { 0 = table }) ≡ o → list_all has_fitting_default (option_map_or (λ (x : Table). x.columns) o []) ≡ true
    by None found = refl
    by (Some t) found =
        let number : TableNo = record { 0 = table } in
        ap (list_all has_fitting_default) (found_in number (own things number) t found).2
        ∙ all_from has_fitting_default (flat_map (λ (x : Thing). columns_in x.part) (own things number)) (λ column its.
        let x = in_flat (λ (x : Thing). columns_in x.part) (own things number) column its in
        all_at has_fitting_default (flat_map (λ (x : Thing). columns_in x.part) things) column all (to_flat (λ (x : Thing). columns_in x.part) things x.0 column (from_filter (is_of number) things x.0 x.1).0 x.2))

-- ---- foreign keys

abbrev TypedIn : Things → Reference → Type 0
TypedIn things key = IsTyped (columns_of things key.child.0) key

module _ (things : Things) (parent : TableNo) where
  of_rule : (number : TableNo) (t : Table) → table_numbered things number ≡ Some t → (name : Text) (r : Rule) (key : Reference) → Contains (by_rule things t parent name r) key → TypedIn things key
  of_rule number t found name (rule.ForeignKey fk) key its = elim (head_or_tail (reference_of things t parent name fk) [] key its) [
    | inl same ↦
        let itself : t.number ≡ number = (found_in number (own things number) t found).1 in
        let there : table_numbered things t.number ≡ Some t = ap (table_numbered things) itself ∙ found in
        let typed : IsTyped t.columns (reference_of things t parent name fk) = record { types = refl; defaults = refl } in
        subst (TypedIn things) same (subst (λ (columns : List Column). IsTyped columns (reference_of things t parent name fk)) (sym (columns_are things t.number t there)) typed)
    | inr none ↦ absurd (nothing_in key none)
  ]
  of_rule number t found name (rule.NotNull column) key its = absurd (nothing_in key its)
  of_rule number t found name (rule.PrimaryKey columns) key its = absurd (nothing_in key its)
  of_rule number t found name (rule.Unique columns) key its = absurd (nothing_in key its)
  of_rule number t found name (rule.Check condition) key its = absurd (nothing_in key its)
  of_rule number t found name (rule.Index columns) key its = absurd (nothing_in key its)

  of_constraint : (number : TableNo) (t : Table) → table_numbered things number ≡ Some t → (o : Option Constraint) (key : Reference) → Contains (by_constraint things t parent o) key → TypedIn things key
  of_constraint number t found None key its = absurd (nothing_in key its)
  of_constraint number t found (Some c) key its = of_rule number t found c.name c.rule key its

  of_child : (child : Child) (key : Reference) → Contains (child_reference things parent child) key → TypedIn things key
  of_child child key = by (table_numbered things child.table) refl
    where
      by : (o : Option Table) → table_numbered things child.table ≡ o → Contains (option_map_or (named_in things parent child.constraint) o []) key → TypedIn things key
      by None found its = absurd (nothing_in key its)
      by (Some t) found its = of_constraint child.table t found (find (λ (c : Constraint). bytes_eq child.constraint c.name) t.constraints) key its

  of_references : (key : Reference) → Contains (references_on things parent) key → TypedIn things key
  of_references key = by (table_numbered things parent)
    where
      by : (o : Option Table) → Contains (option_map_or (λ (t : Table). flat_map (child_reference things parent) (children_of things t.name)) o []) key → TypedIn things key
      by None its = absurd (nothing_in key its)
      by (Some t) its = let c = in_flat (child_reference things parent) (children_of things t.name) key its in of_child c.0 key c.2

-- ---- as statements are told of them

in_keys : (keys : Keys) (table : ℕ) (key : Reference) → Contains (keys_on keys table) key → (e : ℕ × List Reference) × Contains keys e × Contains e.1 key
in_keys [] table key found = absurd (nothing_in key found)
in_keys (e ∷ keys) table key found = by (λ later. in_keys keys table key later) (is table e.0) found
  where
    by : (Contains (keys_on keys table) key → (x : ℕ × List Reference) × Contains keys x × Contains x.1 key) → (b : Bool) → Contains (unwrap_or (if b then Some e.1 else lookup (is table) keys) []) key → (x : ℕ × List Reference) × Contains (e ∷ keys) x × Contains x.1 key
    by more true here = (e, at_head e keys, here)
    by more false later = let rest = more later in (rest.0, in_tail e keys rest.0 rest.1, rest.2)

of_entry : (things : Things) (t : Thing) (e : ℕ × List Reference) (key : Reference) → Contains (keys_at things t) e → Contains e.1 key → TypedIn things key
of_entry things t e key = by (is_table t.part)
  where
    by : (b : Bool) → Contains (if b then (t.table.0, references_on things t.table) ∷ [] else []) e → Contains e.1 key → TypedIn things key
    by true found its = elim (head_or_tail (t.table.0, references_on things t.table) [] e found) [
      | inl same ↦ of_references things t.table key (subst (λ (x : ℕ × List Reference). Contains x.1 key) (sym same) its)
      | inr none ↦ absurd (nothing_in e none)
    ]
    by false found its = absurd (nothing_in e found)

pub all_typed : (things : Things) (table : ℕ) (key : Reference) → Contains (keys_on (keys_in things) table) key → IsTyped (columns_of things key.child.0) key
all_typed things table key found =
    let e = in_keys (keys_in things) table key found in
    let t = in_flat (keys_at things) things e.0 e.1 in
    of_entry things t.0 e.0 key t.2 e.2
