-- The tests of definitions say what is asked of them.
use Rattle.std.proofs.Common.{◌≡◌, Bool, true, false, ◌&&◌, List, [], ◌∷◌, map, Option, Some, None, refl, ap, subst}
use Rattle.std.specs.Prelude.{is_none}
use Rattle.std.proofs.lemmas.Bool.{and_from, and_parts, not-true, not_from_false, or_parts}
use Rattle.std.proofs.lemmas.Map.Keys.{IsDistinct-cons, IsDistinct-head, IsDistinct-tail}
use Rattle.std.specs.List.{AllByRecursion, IsDistinct, list_all, list_any}
use Rattle.std.specs.Str.{bytes_eq}
use Rattle.hs_base.specs.declared.numbers.TableNo.{TableNo}
use Rattle.hs_language.specs.Sound.{are_distinct, has_fitting_default}
use Rattle.hs_plan.specs.declared.definition.Constraint.{Constraint}
use Rattle.hs_plan.specs.declared.definition.Definition.{Definition}
use Rattle.hs_plan.specs.declared.definition.Definition.TheVariants as d
use Rattle.hs_language.specs.Added.{columns_added, constraints_added}
use Rattle.hs_language.specs.Limits.{keeps_limits}
use Rattle.hs_language.specs.Proper.{adds_new_columns, are_over, are_paired, drops_constraint, drops_index, is_in_memory, rule_refers, IsProper}
use Rattle.hs_language.proofs.Tables.{itself}
use Rattle.hs_language.proofs.Whole.{all_from, all_test, none_test}
use Rattle.hs_schema.specs.Catalogue.{AreNew, IsBound, Things, number_of, owner_of}
use Rattle.hs_schema.proofs.Things.{same_number}
use Rattle.hs_applicable.specs.Bound.{are_new, has_fine_columns, has_fine_constraints, has_table, is_bound, is_free, is_proper, is_same}

-- ---- options

pub none_is : {X : Type 0} (o : Option X) → is_none o ≡ true → o ≡ None
none_is None h = refl
none_is (Some x) h = absurd (let no : false ≡ true = h in cc)

same_is : (a b : Option TableNo) → is_same a b ≡ true → a ≡ b
same_is (Some a) (Some b) h = ap (λ (t : TableNo). Some t) (same_number a b h)
same_is None None h = refl
same_is (Some a) None h = absurd (let no : false ≡ true = h in cc)
same_is None (Some b) h = absurd (let no : false ≡ true = h in cc)

is_itself : (o : Option TableNo) → is_same o o ≡ true
is_itself None = refl
is_itself (Some a) = itself a.0

-- ---- names that differ

module _ {K : Type 0} where
  none_from : (test : K → Bool) (ks : List K) → list_any test ks ≡ false → AllByRecursion (λ y. test y ≡ false) ks
  none_from test [] h = tt
  none_from test (k ∷ ks) h = let parts = or_parts (test k) (list_any test ks) h in (parts.0, none_from test ks parts.1)

  distinct_from : (alike : K → K → Bool) (ks : List K) → are_distinct alike ks ≡ true → IsDistinct alike ks
  unfolding IsDistinct
  distinct_from alike [] h = tt
  distinct_from alike (k ∷ ks) h =
      let parts = and_parts _ (are_distinct alike ks) h in
      IsDistinct-cons alike k ks (none_from (alike k) ks (not-true (list_any (alike k) ks) parts.0)) (distinct_from alike ks parts.1)

  distinct_test : (alike : K → K → Bool) (ks : List K) → IsDistinct alike ks → are_distinct alike ks ≡ true
  distinct_test alike [] h = refl
  distinct_test alike (k ∷ ks) h =
      and_from _ (are_distinct alike ks) (not_from_false (list_any (alike k) ks) (none_test (alike k) ks (IsDistinct-head alike k ks h)))
      (distinct_test alike ks (IsDistinct-tail alike k ks h))

-- ---- definitions

module _ (things : Things) where
  new_from : (constraints : List Constraint) → are_new things constraints ≡ true → AreNew things constraints
  new_from constraints h =
      let parts = and_parts (are_distinct bytes_eq (map (λ (c : Constraint). c.name) constraints)) (list_all (λ (c : Constraint). is_free things c.name) constraints) h in (
        distinct_from bytes_eq (map (λ (c : Constraint). c.name) constraints) parts.0,
        all_from (λ (c : Constraint). is_free things c.name) (λ (c : Constraint). owner_of things c.name ≡ None) (λ c so. none_is (owner_of things c.name) so) constraints parts.1,
      )

  new_test : (constraints : List Constraint) → AreNew things constraints → are_new things constraints ≡ true
  new_test constraints h =
      and_from (are_distinct bytes_eq (map (λ (c : Constraint). c.name) constraints)) (list_all (λ (c : Constraint). is_free things c.name) constraints)
      (distinct_test bytes_eq (map (λ (c : Constraint). c.name) constraints) h.0)
      (all_test (λ (c : Constraint). is_free things c.name) (λ (c : Constraint). owner_of things c.name ≡ None) (λ c none. ap is_none none) constraints h.1)

  pub bound_from : (definition : Definition) → is_bound things definition ≡ true → IsBound things definition
  bound_from (d.CreateTable storage name columns constraints) h =
      let parts = and_parts (is_none (number_of things name)) (are_new things constraints) h in (none_is (number_of things name) parts.0, new_from constraints parts.1)
  bound_from (d.DropTable name) h = h
  bound_from (d.AddColumn table column constraints) h = let parts = and_parts (has_table things table) (are_new things constraints) h in (parts.0, new_from constraints parts.1)
  bound_from (d.AddConstraint table constraint) h = let parts = and_parts (has_table things table) (is_free things constraint.name) h in (parts.0, none_is (owner_of things constraint.name) parts.1)
  bound_from (d.DropConstraint table name) h =
      let parts = and_parts (has_table things table) (is_same (owner_of things name) (number_of things table)) h in (parts.0, same_is (owner_of things name) (number_of things table) parts.1)
  bound_from (d.CreateIndex table name columns) h = let parts = and_parts (has_table things table) (is_free things name) h in (parts.0, none_is (owner_of things name) parts.1)
  bound_from (d.DropIndex name) h = h
  bound_from (d.SetControl control) h = tt
  bound_from (d.SetDefaultLevel serializable) h = tt

  pub bound_test : (definition : Definition) → IsBound things definition → is_bound things definition ≡ true
  bound_test (d.CreateTable storage name columns constraints) h = and_from (is_none (number_of things name)) (are_new things constraints) (ap is_none h.0) (new_test constraints h.1)
  bound_test (d.DropTable name) h = h
  bound_test (d.AddColumn table column constraints) h = and_from (has_table things table) (are_new things constraints) h.0 (new_test constraints h.1)
  bound_test (d.AddConstraint table constraint) h = and_from (has_table things table) (is_free things constraint.name) h.0 (ap is_none h.1)
  bound_test (d.DropConstraint table name) h =
      and_from (has_table things table) (is_same (owner_of things name) (number_of things table)) h.0
      (subst (λ (o : Option TableNo). is_same (owner_of things name) o ≡ true) h.1 (is_itself (owner_of things name)))
  bound_test (d.CreateIndex table name columns) h = and_from (has_table things table) (is_free things name) h.0 (ap is_none h.1)
  bound_test (d.DropIndex name) h = h
  bound_test (d.SetControl control) h = refl
  bound_test (d.SetDefaultLevel serializable) h = refl

  abbrev fitting : Definition → Bool
  fitting definition = list_all has_fitting_default (columns_added definition)

  abbrev referring : Definition → Bool
  referring definition = list_all (λ (c : Constraint). rule_refers things definition c.rule) (constraints_added definition)

  -- what is asked beside storage and limits
  abbrev drops : Definition → Bool
  drops definition = drops_index things definition && drops_constraint things definition

  abbrev fine : Definition → Bool
  fine definition = has_fine_columns things definition && (has_fine_constraints things definition && drops definition)

  pub proper_from : (definition : Definition) → is_proper things definition ≡ true → IsProper things definition
  proper_from definition h =
      let a = and_parts (is_in_memory definition) (keeps_limits things definition && (is_bound things definition && fine definition)) h in
      let b = and_parts (keeps_limits things definition) (is_bound things definition && fine definition) a.1 in
      let c = and_parts (is_bound things definition) (fine definition) b.1 in
      let e = and_parts (has_fine_columns things definition) (has_fine_constraints things definition && drops definition) c.1 in
      let f = and_parts (has_fine_constraints things definition) (drops definition) e.1 in
      let columns = and_parts (adds_new_columns things definition) (fitting definition) e.0 in
      let constraints = and_parts (are_over things definition) (referring definition && are_paired things definition) f.0 in
      let keys = and_parts (referring definition) (are_paired things definition) constraints.1 in
      let dropped = and_parts (drops_index things definition) (drops_constraint things definition) f.1 in
      record {
        bound = bound_from definition c.0;
        storage = a.0;
        limits = b.0;
        columns = columns.0;
        defaults = columns.1;
        places = constraints.0;
        references = keys.0;
        kinds = keys.1;
        index = dropped.0;
        constraint = dropped.1;
      }

  pub proper_test : (definition : Definition) → IsProper things definition → is_proper things definition ≡ true
  proper_test definition p =
      and_from (is_in_memory definition) (keeps_limits things definition && (is_bound things definition && fine definition)) p.storage
      (and_from (keeps_limits things definition) (is_bound things definition && fine definition) p.limits
      (and_from (is_bound things definition) (fine definition) (bound_test definition p.bound)
      (and_from (has_fine_columns things definition) (has_fine_constraints things definition && drops definition)
      (and_from (adds_new_columns things definition) (fitting definition) p.columns p.defaults)
      (and_from (has_fine_constraints things definition) (drops definition)
      (and_from (are_over things definition) (referring definition && are_paired things definition) p.places
      (and_from (referring definition) (are_paired things definition) p.references p.kinds))
      (and_from (drops_index things definition) (drops_constraint things definition) p.index p.constraint)))))
