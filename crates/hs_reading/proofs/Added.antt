-- What a definition adds is new, and its foreign keys reference keys.
use Rattle.std.proofs.Common.{◌≡◌, ◌==◌, ◌+◌, ℕ, Bool, true, false, not, nat_le, nat_lt, length, List, [], ◌++◌, map, zip, Option, None, Some, refl, sym, ap, ap₂, ◌∙◌, arith, if◌then◌else◌}
use Rattle.std.proofs.lemmas.Bool.{and_from, le-leb, ltb-false, not-false, or_right}
use Rattle.std.proofs.lemmas.List.{append-nil, length-append, length-map}
use Rattle.std.proofs.lemmas.List.Concat.{flat_map-append}
use Rattle.std.specs.List.{flat_map, list_all}
use Rattle.std.specs.Option.{option_map, option_map_or}
use Rattle.std.specs.Str.{bytes_eq}
use Rattle.hs_ast.specs.declared.definition.ForeignKey.{ForeignKey}
use Rattle.hs_ast.specs.declared.definition.TableElement.{TableElement}
use Rattle.hs_ast.specs.declared.word.Identifier.{Identifier}
use Rattle.hs_elements.specs.Columns.{columns_of, place_in, unknown}
use Rattle.hs_elements.specs.Faults.{Text, fault_at, repeated, where_so}
use Rattle.hs_meaning.specs.Parts.{Meaning, tree_in}
use Rattle.hs_meaning.specs.Queries.{uneven}
use Rattle.hs_meaning.specs.Statements.{check_meaning}
use Rattle.hs_outlines.specs.Columns.{columns_faults, columns_written, definitions}
use Rattle.hs_outlines.specs.ForeignKeys.{all_alike, is_key, parent_of, reference_by, reference_faults, referenced, table_or_none}
use Rattle.hs_outlines.specs.Limits.{beyond, most}
use Rattle.hs_outlines.specs.Named.{AreNamed, name_faults, primary_name, written}
use Rattle.hs_outlines.specs.Outline.{Outlined, key_by, keys_of, keys_written, outline_of, places_in}
use Rattle.hs_plan.specs.declared.definition.Column.{Column}
use Rattle.hs_plan.specs.declared.definition.Constraint.{Constraint}
use Rattle.hs_plan.specs.declared.definition.Definition.{Definition}
use Rattle.hs_plan.specs.declared.definition.Rule.{Rule}
use Rattle.hs_plan.specs.declared.definition.Rule.TheVariants as rule
use Rattle.hs_plan.specs.declared.fault.Cause.TheVariants as cause
use Rattle.hs_plan.specs.declared.fault.PlacedFault.{PlacedFault}
use Rattle.hs_plan.specs.declared.fault.Which.TheVariants as which
use Rattle.hs_schema.specs.Catalogue.{AreNew, Things, table_named}
use Rattle.hs_schema.specs.declared.table.Table.{Table}
use Rattle.hs_tables.specs.Additions.{Base, added, every_column, named, whole}
use Rattle.hs_tables.specs.Rules.{all_rules, reference, rules}
use Rattle.hs_tables.specs.Site.{Sight, sight_of}
use Rattle.hs_language.specs.Added.{columns_behind, columns_named, columns_seen, constraints_named, constraints_seen}
use Rattle.hs_language.specs.Limits.{primary_keys, stays_within}
use Rattle.hs_language.specs.Proper.{are_columns, are_new_columns, has_key_over, is_over, rule_pairs, rule_refers}
use Rattle.hs_reading.specs.Offered.{are_some, is_offered_element}
use Rattle.hs_reading.proofs.Faults.{none_both, not_so}
use Rattle.hs_reading.proofs.Keyed.{keys_same, referenced_is_key}
use Rattle.hs_reading.proofs.Naming.{are_new, as_many, fresh_names, names_of_named, AreFresh}
use Rattle.hs_reading.proofs.NewColumns.{new_columns}
use Rattle.hs_reading.proofs.Placed.{place_low, some_columns}
use Rattle.hs_reading.proofs.Primary.{one_primary}
use Rattle.hs_reading.proofs.Ruled.{all_counted, all_good, keys_good, keys_made, known_all, made_good, rules_good, AreGood, Good, IsOfKeys}

-- what the tables have behind a definition that adds this to the table of this name
pub record IsSeen {X : Type 0} (name : Text) (all : Text → List X) (before more : List X) (seen : Text → List X) : Type 0 where
  pub own : (n : Text) → bytes_eq n name ≡ true → seen n ≡ before ++ more
  pub others : (n : Text) → bytes_eq n name ≡ false → seen n ≡ all n ++ []

module _ (things : Things) (b : Base) (elements : List TableElement) (definition : Definition) (constraints : List Constraint)
    (is_seen : IsSeen b.name (constraints_named things) b.constraints constraints (constraints_seen things definition)) (keys : keys_of constraints ≡ keys_written (columns_of [] (every_column b elements)) elements) where
  abbrev own : Outlined
  own = whole b elements

  table_key : (name : Text) (columns : List ℕ) (o : Option Table) → is_key (table_or_none name (option_map outline_of o)).keys columns ≡ has_key_over (option_map_or (λ (t : Table). t.constraints) o []) columns
  table_key name columns None = refl
  table_key name columns (Some t) = keys_same columns t.constraints

  -- a key of the parent is one behind the definition
  parent_key : (name : Text) (columns : List ℕ) → is_key (parent_of things own name).keys columns ≡ true → has_key_over (constraints_seen things definition name) columns ≡ true
  parent_key name columns h = by (bytes_eq name b.name) refl h
    where
      by : (c : Bool) → bytes_eq name b.name ≡ c → is_key (if◌then◌else◌ {A = Outlined} c own (table_or_none name (option_map outline_of (table_named things name)))).keys columns ≡ true → has_key_over (constraints_seen things definition name) columns ≡ true
      by true e h =
          ap (λ cs. has_key_over cs columns) (is_seen.own name e) ∙ sym (keys_same columns (b.constraints ++ constraints))
          ∙ ap (λ ks. is_key ks columns) (flat_map-append (λ (c : Constraint). key_by c.rule) b.constraints constraints ∙ ap (λ ks. keys_of b.constraints ++ ks) keys) ∙ h
      by false e h =
          ap (λ cs. has_key_over cs columns) (is_seen.others name e ∙ append-nil (constraints_named things name)) ∙ sym (table_key name columns (table_named things name)) ∙ h

  refers_by : (at : ℕ) (key : ForeignKey) (parent : Outlined) → parent ≡ parent_of things own key.parent.name → (columns parents : Option (List ℕ)) → referenced parent key.parent_columns ≡ parents
      → reference_faults at own parent key columns parents ≡ [] → option_map_or (rule_refers things definition) (option_map rule.ForeignKey (reference_by key columns parents)) true ≡ true
  refers_by at key parent is None parents e h = refl
  refers_by at key parent is (Some columns) None e h = refl
  refers_by at key parent is (Some columns) (Some parents) e h =
      and_from (length columns == length parents) (has_key_over (constraints_seen things definition key.parent.name) parents) (by (length columns == length parents) h)
      (parent_key key.parent.name parents (ap (λ (p : Outlined). is_key p.keys parents) (sym is) ∙ referenced_is_key parent key.parent_columns parents e))
    where
      by : (c : Bool) → (if c then where_so (not (all_alike own.columns parent.columns (zip columns parents))) (fault_at at cause.Types) else uneven) ≡ [] → c ≡ true
      by true h = refl
      by false h = absurd (cc)

  reference_good : (at : ℕ) (list : List Identifier) (key : ForeignKey) → Good (rule_refers things definition) (reference (sight_of things own) at list key)
  reference_good at list key h =
      let parent : Outlined = parent_of things own key.parent.name in
      let columns : Option (List ℕ) = places_in own.names list in
      let parents : Option (List ℕ) = referenced parent key.parent_columns in
      let faults = none_both (unknown own.names list ++ repeated [] list ++ repeated [] key.parent_columns) (reference_faults at own parent key columns parents) h in
      refers_by at key parent refl columns parents refl faults.1

  of_keys : IsOfKeys (rule_refers things definition)
  of_keys = record { not_null = λ column. refl; primary = λ columns. refl; unique = λ columns. refl; check = λ condition. refl }

  refers_good : AreGood (sight_of things own) (rule_refers things definition)
  refers_good = keys_good (sight_of things own) (rule_refers things definition) of_keys reference_good

-- the columns of the tables behind the definition
pub record HasColumns (things : Things) (b : Base) (elements : List TableElement) (definition : Definition) : Type 0 where
  pub own : columns_behind things definition ≡ every_column b elements
  pub seen : IsSeen b.name (columns_named things) b.columns (columns_written elements) (columns_seen things definition)

module _ (things : Things) (b : Base) (elements : List TableElement) (definition : Definition) (has : HasColumns things b elements definition) where
  parent_columns : (name : Text) → (parent_of things (whole b elements) name).columns ≡ columns_seen things definition name
  parent_columns name = by (bytes_eq name b.name) refl
    where
      of_table : (o : Option Table) → (table_or_none name (option_map outline_of o)).columns ≡ option_map_or (λ (t : Table). t.columns) o []
      of_table None = refl
      of_table (Some t) = refl

      by : (c : Bool) → bytes_eq name b.name ≡ c → (if◌then◌else◌ {A = Outlined} c (whole b elements) (table_or_none name (option_map outline_of (table_named things name)))).columns ≡ columns_seen things definition name
      by true e = sym (has.seen.own name e)
      by false e = of_table (table_named things name) ∙ sym (has.seen.others name e ∙ append-nil (columns_named things name))

  pairs_by : (at : ℕ) (key : ForeignKey) (columns parents : Option (List ℕ)) → reference_faults at (whole b elements) (parent_of things (whole b elements) key.parent.name) key columns parents ≡ []
      → option_map_or (rule_pairs things definition) (option_map rule.ForeignKey (reference_by key columns parents)) true ≡ true
  pairs_by at key None parents h = refl
  pairs_by at key (Some columns) None h = refl
  pairs_by at key (Some columns) (Some parents) h =
      ap₂ (λ (cs ps : List Column). all_alike cs ps (zip columns parents)) has.own (sym (parent_columns key.parent.name))
      ∙ by (all_alike (every_column b elements) (parent_of things (whole b elements) key.parent.name).columns (zip columns parents)) (length columns == length parents) h
    where
      by : (alike c : Bool) → (if c then where_so (not alike) (fault_at at cause.Types) else uneven) ≡ [] → alike ≡ true
      by alike true h = not-false alike (not_so (not alike) (fault_at at cause.Types) h)
      by alike false h = absurd (cc)

  pair_of_keys : IsOfKeys (rule_pairs things definition)
  pair_of_keys = record { not_null = λ column. refl; primary = λ columns. refl; unique = λ columns. refl; check = λ condition. refl }

  pairs_good : AreGood (sight_of things (whole b elements)) (rule_pairs things definition)
  pairs_good =
      keys_good (sight_of things (whole b elements)) (rule_pairs things definition) pair_of_keys (λ at list key h.
      let own : Outlined = whole b elements in
      let parent : Outlined = parent_of things own key.parent.name in
      let columns : Option (List ℕ) = places_in own.names list in
      let parents : Option (List ℕ) = referenced parent key.parent_columns in
      let faults = none_both (unknown own.names list ++ repeated [] list ++ repeated [] key.parent_columns) (reference_faults at own parent key columns parents) h in
      pairs_by at key columns parents faults.1)

-- ---- rules over columns

module _ (things : Things) (own : Outlined) (is : own.names ≡ columns_of [] own.columns) where
  abbrev many : ℕ
  many = length own.columns

  over_places : (make : List ℕ → Rule) → ((places : List ℕ) → are_columns many places ≡ true → is_over many (make places) ≡ true) → (list : List Identifier) → are_some list ≡ true → repeated [] list ≡ []
      → (o : Option (List ℕ)) → places_in own.names list ≡ o → option_map_or (is_over many) (option_map make o) true ≡ true
  over_places make so list some once None e = refl
  over_places make so list some once (Some places) e = so places (some_columns own.columns list places (ap (λ n. places_in n list) (sym is) ∙ e) once some)

  over_key : (list : List Identifier) (key : ForeignKey) → are_some list ≡ true → repeated [] list ≡ []
      → (columns parents : Option (List ℕ)) → places_in own.names list ≡ columns → option_map_or (is_over many) (option_map rule.ForeignKey (reference_by key columns parents)) true ≡ true
  over_key list key some once None parents e = refl
  over_key list key some once (Some columns) None e = refl
  over_key list key some once (Some columns) (Some parents) e = some_columns own.columns list columns (ap (λ n. places_in n list) (sym is) ∙ e) once some

  over_column : (name : Identifier) (o : Option ℕ) → place_in own.names name.name ≡ o → option_map_or (is_over many) (option_map rule.NotNull o) true ≡ true
  over_column name None e = refl
  over_column name (Some p) e = place_low own.columns name.name p (ap (λ n. place_in n name.name) (sym is) ∙ e)

  over_good : AreGood (sight_of things own) (is_over many)
  over_good = record {
    of_not_null = λ name h. over_column name (place_in own.names name.name) refl;
    of_primary = λ list some h. over_places rule.PrimaryKey (λ places so. so) list some (none_both (unknown own.names list) (repeated [] list) h).1 (places_in own.names list) refl;
    of_unique = λ list some h. over_places rule.Unique (λ places so. so) list some (none_both (unknown own.names list) (repeated [] list) h).1 (places_in own.names list) refl;
    of_check = λ e h. made_good (is_over many) rule.Check (λ condition. refl) (tree_in (check_meaning (sight_of things own).tables e)).part;
    of_reference = λ at list key some h.
        let parent : Outlined = parent_of things own key.parent.name in
        let columns : Option (List ℕ) = places_in own.names list in
        let parents : Option (List ℕ) = referenced parent key.parent_columns in
        let faults = none_both (unknown own.names list ++ repeated [] list ++ repeated [] key.parent_columns) (reference_faults at own parent key columns parents) h in
        let lists = none_both (unknown own.names list ++ repeated [] list) (repeated [] key.parent_columns) faults.0 in
        over_key list key some (none_both (unknown own.names list) (repeated [] list) lists.0).1 columns parents refl;
  }

-- ---- limits

-- so many, and more
pub within : (limit before more : ℕ) → nat_lt limit (before + more) ≡ false → stays_within limit before more ≡ true
within limit before more h = or_right (more == 0) (nat_le (before + more) limit) (le-leb (before + more) limit (ltb-false limit (before + more) h))

-- the names, the rules and the faults of what is added
pub record IsAdding (things : Things) (b : Base) (elements : List TableElement) (names : List Text) (rs : List Rule) : Type 0 where
  pub named : AreNamed things b.name [] (written elements) names
  pub parts : map (λ (m : Meaning Rule). m.part) (all_rules (sight_of things (whole b elements)) elements) ≡ map (λ r. Some r) rs
  pub columns_well : columns_faults (columns_of [] b.columns) (definitions elements) ≡ []
  pub named_well : name_faults things [] (primary_name b.constraints) (written elements) names ≡ []
  pub ruled_well : flat_map (λ (m : Meaning Rule). m.faults) (all_rules (sight_of things (whole b elements)) elements) ≡ []
  pub few_columns : nat_lt (most which.Columns) (length (every_column b elements) + 0) ≡ false
  pub few_constraints : nat_lt (most which.Constraints) (length b.constraints + length (written elements)) ≡ false

pub adding : (things : Things) (at : ℕ) (b : Base) (elements : List TableElement) (names : List Text) (rs : List Rule) → AreNamed things b.name [] (written elements) names → (added things at b elements names).faults ≡ []
    → (rules (sight_of things (whole b elements)) elements).part ≡ Some rs → IsAdding things b elements names rs
adding things at b elements names rs are h known_so =
    let ms : List (Meaning Rule) = all_rules (sight_of things (whole b elements)) elements in
    let columns : List PlacedFault = columns_faults (columns_of [] b.columns) (definitions elements) in
    let names_wrong : List PlacedFault = name_faults things [] (primary_name b.constraints) (written elements) names in
    let rules_wrong : List PlacedFault = flat_map (λ (m : Meaning Rule). m.faults) ms in
    let many_columns : List PlacedFault = beyond at which.Columns (length (every_column b elements)) 0 in
    let a = none_both (columns ++ names_wrong ++ rules_wrong ++ many_columns) (beyond at which.Constraints (length b.constraints) (length (written elements))) h in
    let c = none_both (columns ++ names_wrong ++ rules_wrong) many_columns a.0 in
    let e = none_both (columns ++ names_wrong) rules_wrong c.0 in
    let g = none_both columns names_wrong e.0 in
    record {
      named = are;
      parts = known_all (map (λ (m : Meaning Rule). m.part) ms) rs known_so;
      columns_well = g.0;
      named_well = g.1;
      ruled_well = e.1;
      few_columns = not_so (nat_lt (most which.Columns) (length (every_column b elements) + 0)) (fault_at at (cause.Limit which.Columns)) c.1;
      few_constraints = not_so (nat_lt (most which.Constraints) (length b.constraints + length (written elements))) (fault_at at (cause.Limit which.Constraints)) a.1;
    }

module _ (things : Things) (b : Base) (elements : List TableElement) (names : List Text) (rs : List Rule) (is : IsAdding things b elements names rs) where
  pub many_names : length names ≡ length (written elements)
  many_names = as_many things b.name [] (written elements) names is.named

  pub as_many_rules : length names ≡ length rs
  as_many_rules =
      let one = many_names in
      let two = all_counted (sight_of things (whole b elements)) elements in
      let three = length-map (all_rules (sight_of things (whole b elements)) elements) (λ (m : Meaning Rule). m.part) in
      let four = length-map rs (λ r. Some r) in
      let five = ap length is.parts in
      omega (arith, one, two, three, four, five)

  pub added_new : AreNew things (named names rs)
  added_new =
      let fresh : AreFresh things [] names = fresh_names things b.name [] (primary_name b.constraints) (written elements) names is.named is.named_well in
      are_new things names rs as_many_rules fresh

  -- each constraint meets what the rules of the text meet
  added_good : (test : Rule → Bool) → AreGood (sight_of things (whole b elements)) test → list_all is_offered_element elements ≡ true → list_all (λ (c : Constraint). test c.rule) (named names rs) ≡ true
  added_good test good some =
      let s : Sight = sight_of things (whole b elements) in
      rules_good test (all_rules s elements) names rs (all_good s test good elements some) is.ruled_well is.parts

  pub added_refers : (definition : Definition) → IsSeen b.name (constraints_named things) b.constraints (named names rs) (constraints_seen things definition) → list_all is_offered_element elements ≡ true
      → list_all (λ (c : Constraint). rule_refers things definition c.rule) (named names rs) ≡ true
  added_refers definition seen some =
      let keys : keys_of (named names rs) ≡ keys_written (columns_of [] (every_column b elements)) elements = keys_made (sight_of things (whole b elements)) elements names rs is.parts as_many_rules in
      added_good (rule_refers things definition) (refers_good things b elements definition (named names rs) seen keys) some

  pub added_pairs : (definition : Definition) → HasColumns things b elements definition → list_all is_offered_element elements ≡ true → list_all (λ (c : Constraint). rule_pairs things definition c.rule) (named names rs) ≡ true
  added_pairs definition has some = added_good (rule_pairs things definition) (pairs_good things b elements definition has) some

  pub added_over : (definition : Definition) → HasColumns things b elements definition → list_all is_offered_element elements ≡ true
      → list_all (λ (c : Constraint). is_over (length (columns_behind things definition)) c.rule) (named names rs) ≡ true
  added_over definition has some =
      ap (λ (columns : List Column). list_all (λ (c : Constraint). is_over (length columns) c.rule) (named names rs)) has.own
      ∙ added_good (is_over (length (every_column b elements))) (over_good things (whole b elements) refl) some

  -- ---- what they keep

  pub columns_within : stays_within (most which.Columns) (length b.columns) (length (columns_written elements)) ≡ true
  columns_within =
      let more = length-append b.columns (columns_written elements) in
      let few = ltb-false (most which.Columns) (length (every_column b elements) + 0) is.few_columns in
      or_right (length (columns_written elements) == 0) (nat_le (length b.columns + length (columns_written elements)) (most which.Columns))
      (le-leb (length b.columns + length (columns_written elements)) (most which.Columns) (omega (arith, more, few)))

  pub constraints_within : stays_within (most which.Constraints) (length b.constraints) (length (named names rs)) ≡ true
  constraints_within =
      let one = many_names in
      let two = length-map (named names rs) (λ (c : Constraint). c.name) in
      let three = ap length (names_of_named names rs as_many_rules) in
      let few = ltb-false (most which.Constraints) (length b.constraints + length (written elements)) is.few_constraints in
      or_right (length (named names rs) == 0) (nat_le (length b.constraints + length (named names rs)) (most which.Constraints))
      (le-leb (length b.constraints + length (named names rs)) (most which.Constraints) (omega (arith, one, two, three, few)))

  pub key_within : stays_within 1 (primary_keys b.constraints) (primary_keys (named names rs)) ≡ true
  key_within = one_primary (sight_of things (whole b elements)) things b.name b.constraints elements names rs is.named is.named_well is.parts as_many_rules

  pub columns_new : are_new_columns b.columns (columns_written elements) ≡ true
  columns_new = new_columns b.columns (definitions elements) is.columns_well
