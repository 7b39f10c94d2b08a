-- A catalogue without a constraint or an index of a table.
use Rattle.std.proofs.Common.{◌≡◌, ℕ, ◌+◌, ◌==◌, Bool, true, false, cond, not, ◌&&◌, ◌||◌, nat_eq, filter, length, List, [], ◌∷◌, ◌++◌, map, Option, Some, None, is_some, refl, sym, ap, ◌∙◌, subst, if◌then◌else◌}
use Rattle.std.proofs.lemmas.Bool.{and_from, and_parts, both_ways, eq-eqb, or_right}
use Rattle.std.proofs.lemmas.Map.Keys.{IsDistinct-head, IsDistinct-tail}
use Rattle.std.specs.List.{AllByRecursion, IsDistinct, flat_map, list_all, position_from}
use Rattle.std.specs.Map.{lookup}
use Rattle.std.specs.Option.{option_map, option_map_or}
use Rattle.std.specs.Str.{bytes_eq}
use Rattle.hs_base.specs.declared.numbers.TableNo.{TableNo}
use Rattle.hs_plan.specs.declared.definition.Constraint.{Constraint}
use Rattle.hs_plan.specs.declared.definition.ForeignKey.{ForeignKey}
use Rattle.hs_plan.specs.declared.definition.Rule.{Rule}
use Rattle.hs_plan.specs.declared.definition.Rule.TheVariants as rule
use Rattle.hs_schema.specs.Catalogue.{Text, Things, columns_in, constraints_in, is_constraint, is_of, number_of, own, owned, owned_in, table_numbered, without_constraint}
use Rattle.hs_schema.specs.Kept.{without}
use Rattle.hs_schema.specs.Whole.{IsWhole, names}
use Rattle.hs_schema.specs.declared.table.Table.{Table}
use Rattle.hs_schema.specs.declared.thing.Part.{Part}
use Rattle.hs_schema.specs.declared.thing.Part.TheVariants as part
use Rattle.hs_schema.specs.declared.thing.Thing.{Thing}
use Rattle.hs_schema.proofs.Distinct.{distinct-filter}
use Rattle.hs_schema.proofs.Filters.{flat_map-filter}
use Rattle.hs_schema.proofs.Gone.{named_without_constraint, nothing}
use Rattle.hs_schema.proofs.Lists.{same_text}
use Rattle.hs_schema.proofs.Things.{dropped, same_number}
use Rattle.hs_sentences.specs.Violations.{constraints_of}
use Rattle.hs_footprint.specs.Touched.{are_same, key_columns}
use Rattle.hs_language.specs.Definitions.{is_at}
use Rattle.hs_language.specs.Sound.{has_fitting_default, is_owned, is_sound_constraint, is_sound_rule}
use Rattle.hs_language.specs.Added.{constraints_named}
use Rattle.hs_language.specs.Proper.{has_key_over, is_index, is_key_over}
use Rattle.hs_language.proofs.Keys.{rule_kept}
use Rattle.hs_language.proofs.Lists.{all_and, all_filtered, all_split, all_both, all_unmapped, all_weaker, flat_filtered}
use Rattle.hs_language.proofs.Tables.{constraints_if, constraints_own}

-- ---- constraints of a table

-- the constraints that have not this name
abbrev pub others : Text → List Constraint → List Constraint
others name constraints = filter (λ c. not (bytes_eq name c.name)) constraints

all_alone : (test : Constraint → Bool) (things : Things) → list_all (λ (c : ℕ × Constraint). test c.1) (constraints_of things) ≡ true → list_all test (flat_map (λ (t : Thing). constraints_in t.part) things) ≡ true
all_alone test [] h = refl
all_alone test (t ∷ ts) h =
    let parts = all_split (λ (c : ℕ × Constraint). test c.1) (map (λ c. (t.table.0, c)) (constraints_in t.part)) (constraints_of ts) h in
    all_both test (constraints_in t.part) (flat_map (λ (x : Thing). constraints_in x.part) ts) (all_unmapped (λ (c : ℕ × Constraint). test c.1) (λ c. (t.table.0, c)) (constraints_in t.part) parts.0) (all_alone test ts parts.1)

-- what all constraints pass, those of a table do
pub all_of_table : (test : Constraint → Bool) (things : Things) (n : TableNo) (t : Table) → table_numbered things n ≡ Some t → list_all (λ (c : ℕ × Constraint). test c.1) (constraints_of things) ≡ true → list_all test t.constraints ≡ true
all_of_table test things n t there h =
    ap (list_all test) (constraints_own things n t there)
    ∙ flat_filtered (λ (x : Thing). constraints_in x.part) (is_of n) test test (λ x keeps so. so) things (all_alone test things h)

names_owned : (ts : Things) → map (λ (c : Constraint). c.name) (flat_map (λ (t : Thing). constraints_in t.part) ts) ≡ names (owned ts)
names_owned [] = refl
names_owned (t ∷ ts) = by t.part (names_owned ts)
  where
    by : (p : Part) → map (λ (c : Constraint). c.name) (flat_map (λ (x : Thing). constraints_in x.part) ts) ≡ names (owned ts)
        → map (λ (c : Constraint). c.name) (constraints_in p ++ flat_map (λ (x : Thing). constraints_in x.part) ts) ≡ names (owned_in t.table p ++ owned ts)
    by (part.Table name storage columns) rest = rest
    by (part.Column column) rest = rest
    by (part.Constraint constraint) rest = ap (λ ns. constraint.name ∷ ns) rest

-- no two constraints of a table have one name
pub names_differ : (things : Things) (n : TableNo) (t : Table) → IsWhole things → table_numbered things n ≡ Some t → IsDistinct bytes_eq (map (λ (c : Constraint). c.name) t.constraints)
names_differ things n t whole there =
    subst (λ cs. IsDistinct bytes_eq (map (λ (c : Constraint). c.name) cs)) (sym (constraints_own things n t there))
    (subst (IsDistinct bytes_eq) (sym (names_owned (own things n)))
    (subst (λ es. IsDistinct bytes_eq (names es)) (sym (flat_map-filter (λ (x : Thing). owned_in x.table x.part) (is_of n) (λ (e : Text × TableNo). nat_eq n.0 e.1.0) (λ x. its x.table x.part) things))
    (distinct-filter bytes_eq (λ (e : Text × TableNo). e.0) (λ (e : Text × TableNo). nat_eq n.0 e.1.0) (owned things) whole.constraint_names)))
  where
    its : (m : TableNo) (p : Part) → filter (λ (e : Text × TableNo). nat_eq n.0 e.1.0) (owned_in m p) ≡ (if nat_eq n.0 m.0 then owned_in m p else [])
    its m (part.Table name storage columns) = nothing (nat_eq n.0 m.0)
    its m (part.Column column) = nothing (nat_eq n.0 m.0)
    its m (part.Constraint constraint) = refl

-- ---- keys that are left

index_alone : (r : Rule) (columns : List ℕ) → is_index r ≡ true → are_same (key_columns r) columns ≡ false
index_alone (rule.Index its) columns h = refl
index_alone (rule.NotNull column) columns h = cc
index_alone (rule.PrimaryKey its) columns h = cc
index_alone (rule.Unique its) columns h = cc
index_alone (rule.Check condition) columns h = cc
index_alone (rule.ForeignKey key) columns h = cc

module _ (name : Text) (columns : List ℕ) where
  -- an index is no key
  pub left_by_index : (cs : List Constraint) → list_all (λ (c : Constraint). not (bytes_eq name c.name) || is_index c.rule) cs ≡ true → has_key_over cs columns ≡ true → has_key_over (others name cs) columns ≡ true
  left_by_index [] all h = h
  left_by_index (c ∷ cs) all h =
      let parts = and_parts (not (bytes_eq name c.name) || is_index c.rule) _ all in
      by (bytes_eq name c.name) parts.0 (is_key_over columns c) refl h (left_by_index cs parts.1)
    where
      by : (named : Bool) → (not named || is_index c.rule) ≡ true → (key : Bool) → is_key_over columns c ≡ key → (key || has_key_over cs columns) ≡ true → (has_key_over cs columns ≡ true → has_key_over (others name cs) columns ≡ true)
          → has_key_over (cond (not named) (c ∷ others name cs) (others name cs)) columns ≡ true
      by true index true e h rest = absurd (both_ways (is_key_over columns c) (index_alone c.rule columns index) e)
      by true index false e h rest = rest h
      by false index true e h rest = ap (λ b. b || has_key_over (others name cs) columns) e
      by false index false e h rest = or_right (is_key_over columns c) (has_key_over (others name cs) columns) (rest h)

  all_others : (cs : List Constraint) → AllByRecursion (λ y. bytes_eq name y ≡ false) (map (λ (c : Constraint). c.name) cs) → others name cs ≡ cs
  all_others [] apart = refl
  all_others (c ∷ cs) apart = ap (λ b. cond (not b) (c ∷ others name cs) (others name cs)) apart.0 ∙ ap (λ ds. c ∷ ds) (all_others cs apart.1)

  -- the first key over the columns isn't the first constraint of the name
  pub left_by_place : (cs : List Constraint) (from : ℕ) → IsDistinct bytes_eq (map (λ (c : Constraint). c.name) cs)
      → ((place : ℕ) → position_from (λ (c : Constraint). bytes_eq name c.name) from cs ≡ Some place → is_at place (position_from (is_key_over columns) from cs) ≡ false)
      → has_key_over cs columns ≡ true → has_key_over (others name cs) columns ≡ true
  left_by_place [] from distinct apart h = h
  left_by_place (c ∷ cs) from distinct apart h = by (bytes_eq name c.name) refl (is_key_over columns c) refl apart h (left_by_place cs (from + 1) (IsDistinct-tail bytes_eq c.name (map (λ (x : Constraint). x.name) cs) distinct))
    where
      behind : bytes_eq name c.name ≡ true → others name cs ≡ cs
      behind e = all_others cs (subst (λ (n : Text). AllByRecursion (λ y. bytes_eq n y ≡ false) (map (λ (x : Constraint). x.name) cs)) (sym (same_text name c.name e)) (IsDistinct-head bytes_eq c.name (map (λ (x : Constraint). x.name) cs) distinct))

      by : (named : Bool) → bytes_eq name c.name ≡ named → (key : Bool) → is_key_over columns c ≡ key
          → ((place : ℕ) → cond named (Some from) (position_from (λ (x : Constraint). bytes_eq name x.name) (from + 1) cs) ≡ Some place → is_at place (cond key (Some from) (position_from (is_key_over columns) (from + 1) cs)) ≡ false)
          → (key || has_key_over cs columns) ≡ true
          → (((place : ℕ) → position_from (λ (x : Constraint). bytes_eq name x.name) (from + 1) cs ≡ Some place → is_at place (position_from (is_key_over columns) (from + 1) cs) ≡ false) → has_key_over cs columns ≡ true → has_key_over (others name cs) columns ≡ true)
          → has_key_over (cond (not named) (c ∷ others name cs) (others name cs)) columns ≡ true
      by true e true k apart h rest = absurd (both_ways (from == from) (apart from refl) (eq-eqb from from refl))
      by true e false k apart h rest = ap (λ ds. has_key_over ds columns) (behind e) ∙ h
      by false e true k apart h rest = ap (λ b. b || has_key_over (others name cs) columns) k
      by false e false k apart h rest = or_right (is_key_over columns c) (has_key_over (others name cs) columns) (rest apart h)

-- ---- the catalogue

abbrev pub IsLeft : Things → Text → TableNo → ForeignKey → Type 0
IsLeft things name n key = number_of things key.parent ≡ Some n → (t : Table) → table_numbered things n ≡ Some t → has_key_over t.constraints key.parent_columns ≡ true → has_key_over (others name t.constraints) key.parent_columns ≡ true

abbrev both : Things → ((ℕ × Constraint) → Bool) → (ℕ × Constraint) → Bool
both things extra c = is_sound_constraint things c && extra c

module _ (things : Things) (name : Text) (n : TableNo) where
  abbrev after : Things
  after = without_constraint things name n

  abbrev stays : Thing → Bool
  stays t = not (is_of n t && is_constraint name t.part)

  tables : (m : TableNo) → table_numbered after m ≡ (if nat_eq n.0 m.0 then option_map (without name) (table_numbered things m) else table_numbered things m)
  tables m = sym (dropped things n m name)

  numbers : (other : Text) → number_of after other ≡ number_of things other
  numbers other = ap (lookup (bytes_eq other)) (named_without_constraint n name things)

  still : (m : TableNo) → is_some (table_numbered things m) ≡ true → is_some (table_numbered after m) ≡ true
  still m h = ap is_some (tables m) ∙ by (nat_eq n.0 m.0) (table_numbered things m) h
    where
      by : (b : Bool) (o : Option Table) → is_some o ≡ true → is_some (if b then option_map (without name) o else o) ≡ true
      by true None h = h
      by true (Some t) h = refl
      by false o h = h

  pub without_owned : list_all (is_owned things) things ≡ true → list_all (is_owned after) after ≡ true
  without_owned h = all_filtered stays (is_owned things) (is_owned after) (λ t keeps owned. still t.table owned) things h

  pub without_fitting : list_all has_fitting_default (flat_map (λ t. columns_in t.part) things) ≡ true → list_all has_fitting_default (flat_map (λ t. columns_in t.part) after) ≡ true
  without_fitting h = flat_filtered (λ (t : Thing). columns_in t.part) stays has_fitting_default has_fitting_default (λ t keeps so. so) things h

  key_kept : (key : ForeignKey) → IsLeft things name n key → has_key_over (constraints_named things key.parent) key.parent_columns ≡ true → has_key_over (constraints_named after key.parent) key.parent_columns ≡ true
  key_kept key left h = ap (λ o. has_key_over (constraints_if (option_map_or (table_numbered after) o None)) key.parent_columns) (numbers key.parent) ∙ by (number_of things key.parent) refl h
    where
      here : (m : TableNo) → n ≡ m → number_of things key.parent ≡ Some m → (o : Option Table) → table_numbered things m ≡ o → has_key_over (constraints_if o) key.parent_columns ≡ true → has_key_over (constraints_if (option_map (without name) o)) key.parent_columns ≡ true
      here m same e None there h = h
      here m same e (Some t) there h = left (subst (λ k. number_of things key.parent ≡ Some k) (sym same) e) t (subst (λ k. table_numbered things k ≡ Some t) (sym same) there) h

      at : (m : TableNo) → number_of things key.parent ≡ Some m → (b : Bool) → nat_eq n.0 m.0 ≡ b → has_key_over (constraints_if (table_numbered things m)) key.parent_columns ≡ true
          → has_key_over (constraints_if (if b then option_map (without name) (table_numbered things m) else table_numbered things m)) key.parent_columns ≡ true
      at m e true same h = here m (same_number n m same) e (table_numbered things m) refl h
      at m e false same h = h

      by : (o : Option TableNo) → number_of things key.parent ≡ o → has_key_over (constraints_if (option_map_or (table_numbered things) o None)) key.parent_columns ≡ true → has_key_over (constraints_if (option_map_or (table_numbered after) o None)) key.parent_columns ≡ true
      by None e h = h
      by (Some m) e h = ap (λ o. has_key_over (constraints_if o) key.parent_columns) (tables m) ∙ at m e (nat_eq n.0 m.0) refl h

  pub without_references : (extra : (ℕ × Constraint) → Bool) → list_all extra (constraints_of things) ≡ true → ((c : ℕ × Constraint) (key : ForeignKey) → extra c ≡ true → c.1.rule ≡ rule.ForeignKey key → IsLeft things name n key)
      → list_all (is_sound_constraint things) (constraints_of things) ≡ true → list_all (is_sound_constraint after) (constraints_of after) ≡ true
  without_references extra free left h =
      flat_filtered (λ (t : Thing). map (λ c. (t.table.0, c)) (constraints_in t.part)) stays (both things extra) (is_sound_constraint after)
      (λ t keeps so. all_weaker (both things extra) (is_sound_constraint after) one (map (λ c. (t.table.0, c)) (constraints_in t.part)) so)
      things (all_and (is_sound_constraint things) extra (constraints_of things) h free)
    where
      one : (c : ℕ × Constraint) → (is_sound_constraint things c && extra c) ≡ true → is_sound_rule after c.1.rule ≡ true
      one c held =
          let parts = and_parts (is_sound_constraint things c) (extra c) held in
          rule_kept things after c.1.rule
          (λ key is referenced.
          let halves = and_parts (length key.columns == length key.parent_columns) (has_key_over (constraints_named things key.parent) key.parent_columns) referenced in
          and_from (length key.columns == length key.parent_columns) (has_key_over (constraints_named after key.parent) key.parent_columns) halves.0 (key_kept key (left c key parts.1 is) halves.1))
          parts.0
