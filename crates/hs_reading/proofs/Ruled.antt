-- The rules of a definition's text, their keys, and what each of them meets.
use Rattle.std.proofs.Common.{◌≡◌, ℕ, Bool, true, false, length, length-append, List, [], ◌∷◌, ◌++◌, map, fold, Option, None, Some, refl, sym, ap, ap₂, ◌∙◌, arith, append_assoc}
use Rattle.std.proofs.lemmas.Bool.{and_from, and_parts}
use Rattle.std.proofs.lemmas.List.{append-nil, length-map}
use Rattle.std.proofs.lemmas.List.Concat.{flat_map-append}
use Rattle.std.proofs.lemmas.List.Folds.{list_all-map}
use Rattle.std.specs.List.{AllByRecursion, flat_map, list_all}
use Rattle.std.specs.Option.{option_map, option_map_or}
use Rattle.hs_ast.specs.declared.definition.ColumnConstraint.{ColumnConstraint}
use Rattle.hs_ast.specs.declared.definition.ColumnRule.{ColumnRule}
use Rattle.hs_ast.specs.declared.definition.ColumnRule.TheVariants as column
use Rattle.hs_ast.specs.declared.definition.ForeignKey.{ForeignKey}
use Rattle.hs_ast.specs.declared.definition.TableElement.{TableElement}
use Rattle.hs_ast.specs.declared.definition.TableElement.TheVariants as element
use Rattle.hs_ast.specs.declared.definition.TableRule.{TableRule}
use Rattle.hs_ast.specs.declared.definition.TableRule.TheVariants as table
use Rattle.hs_ast.specs.declared.expression.Expression.{Expression}
use Rattle.hs_ast.specs.declared.word.Identifier.{Identifier}
use Rattle.hs_elements.specs.Columns.{place_in}
use Rattle.hs_elements.specs.Faults.{Text}
use Rattle.hs_meaning.specs.Parts.{Meaning, known, tree_in, with_part}
use Rattle.hs_meaning.specs.Statements.{check_meaning}
use Rattle.hs_outlines.specs.ForeignKeys.{foreign_key}
use Rattle.hs_outlines.specs.Named.{by_column, written, written_in}
use Rattle.hs_outlines.specs.Outline.{key_by, key_in_column, key_in_table, key_over, keys_in, keys_of, keys_written, places_in}
use Rattle.hs_outlines.specs.declared.outline.Key.{Key}
use Rattle.hs_plan.specs.declared.definition.Constraint.{Constraint}
use Rattle.hs_plan.specs.declared.expression.Expr.{Expr}
use Rattle.hs_plan.specs.declared.definition.Rule.{Rule}
use Rattle.hs_plan.specs.declared.definition.Rule.TheVariants as rule
use Rattle.hs_tables.specs.Additions.{named}
use Rattle.hs_tables.specs.Rules.{all_rules, check, column_rule, element_rules, not_null, primary_key, reference, table_rule, unique}
use Rattle.hs_tables.specs.Site.{Sight}
use Rattle.hs_reading.specs.Offered.{are_some, is_offered_element, is_offered_rule}
use Rattle.hs_reading.proofs.Faults.{none_both}

-- ---- what is known

none_stays : {A : Type 0} (parts : List (Option A)) → fold with_part None parts ≡ None
none_stays [] = refl
none_stays (p ∷ ps) = none_stays ps

known_from : {A : Type 0} (front : List A) (parts : List (Option A)) (all : List A) → fold with_part (Some front) parts ≡ Some all → (more : List A) × (all ≡ front ++ more) × (parts ≡ map (λ a. Some a) more)
known_from front [] all h = let same : front ≡ all = cc in ([], sym same ∙ sym (append-nil front), refl)
known_from front (None ∷ ps) all h = absurd (let no : None ≡ Some all = sym (none_stays ps) ∙ h in cc)
known_from front (Some p ∷ ps) all h =
    let rest = known_from (front ++ p ∷ []) ps all h in
    (p ∷ rest.0, rest.1 ∙ append_assoc front (p ∷ []) rest.0, ap (λ os. Some p ∷ os) rest.2)

-- where all parts are known, each is
pub known_all : {A : Type 0} (parts : List (Option A)) (all : List A) → known parts ≡ Some all → parts ≡ map (λ a. Some a) all
known_all parts all h = let found = known_from [] parts all h in found.2 ∙ ap (map (λ a. Some a)) (sym found.1)

-- ---- keys

-- the key of a rule, where it is known
abbrev pub sure : Option Rule → List Key
sure o = option_map_or key_by o []

silent : {A : Type 0} (make : A → Rule) → ((a : A) → key_by (make a) ≡ []) → (o : Option A) → sure (option_map make o) ≡ []
silent make none None = refl
silent make none (Some a) = none a

primary_keyed : (o : Option (List ℕ)) → sure (option_map rule.PrimaryKey o) ≡ key_over true o
primary_keyed None = refl
primary_keyed (Some columns) = refl

unique_keyed : (o : Option (List ℕ)) → sure (option_map rule.Unique o) ≡ key_over false o
unique_keyed None = refl
unique_keyed (Some columns) = refl

module _ (s : Sight) where
  column_keyed : (name : Identifier) (r : ColumnRule) → sure (column_rule s name r).part ≡ key_in_column s.own.names name r
  column_keyed name column.NotNull = silent rule.NotNull (λ a. refl) (place_in s.own.names name.name)
  column_keyed name column.PrimaryKey = primary_keyed (places_in s.own.names (name ∷ []))
  column_keyed name column.Unique = unique_keyed (places_in s.own.names (name ∷ []))
  column_keyed name (column.Check e) = silent rule.Check (λ a. refl) (tree_in (check_meaning s.tables e)).part
  column_keyed name (column.References key) = silent rule.ForeignKey (λ a. refl) (foreign_key s.things name.at s.own (name ∷ []) key).part

  table_keyed : (at : ℕ) (r : TableRule) → sure (table_rule s at r).part ≡ key_in_table s.own.names r
  table_keyed at (table.PrimaryKey list) = primary_keyed (places_in s.own.names list)
  table_keyed at (table.Unique list) = unique_keyed (places_in s.own.names list)
  table_keyed at (table.Check e) = silent rule.Check (λ a. refl) (tree_in (check_meaning s.tables e)).part
  table_keyed at (table.ForeignKey list key) = silent rule.ForeignKey (λ a. refl) (foreign_key s.things at s.own list key).part

  columns_keyed : (name : Identifier) (ks : List ColumnConstraint) → flat_map (λ (m : Meaning Rule). sure m.part) (map (λ (k : ColumnConstraint). column_rule s name k.rule) ks) ≡ flat_map (λ (k : ColumnConstraint). key_in_column s.own.names name k.rule) ks
  columns_keyed name [] = refl
  columns_keyed name (k ∷ ks) = ap₂ (λ (a b : List Key). a ++ b) (column_keyed name k.rule) (columns_keyed name ks)

  element_keyed : (e : TableElement) → flat_map (λ (m : Meaning Rule). sure m.part) (element_rules s e) ≡ keys_in s.own.names e
  element_keyed (element.Column c) = columns_keyed c.name c.constraints
  element_keyed (element.Constraint t) = append-nil (sure (table_rule s t.at t.rule).part) ∙ table_keyed t.at t.rule

  -- the keys that the binder reads off the text
  pub all_keyed : (es : List TableElement) → flat_map (λ (m : Meaning Rule). sure m.part) (all_rules s es) ≡ keys_written s.own.names es
  all_keyed [] = refl
  all_keyed (e ∷ es) = flat_map-append (λ (m : Meaning Rule). sure m.part) (element_rules s e) (all_rules s es) ∙ ap₂ (λ (a b : List Key). a ++ b) (element_keyed e) (all_keyed es)

  -- one rule for each constraint of the text
  element_counted : (e : TableElement) → length (element_rules s e) ≡ length (written_in e)
  element_counted (element.Column c) = length-map c.constraints (λ (k : ColumnConstraint). column_rule s c.name k.rule) ∙ sym (length-map c.constraints by_column)
  element_counted (element.Constraint t) = refl

  pub all_counted : (es : List TableElement) → length (all_rules s es) ≡ length (written es)
  all_counted [] = refl
  all_counted (e ∷ es) =
      let one = length-append (element_rules s e) (all_rules s es) in
      let two = length-append (written_in e) (written es) in
      let here = element_counted e in
      let rest = all_counted es in
      omega (arith, one, two, here, rest)

sure_parts : (ms : List (Meaning Rule)) → flat_map (λ (m : Meaning Rule). sure m.part) ms ≡ flat_map sure (map (λ (m : Meaning Rule). m.part) ms)
sure_parts [] = refl
sure_parts (m ∷ ms) = ap (λ ks. sure m.part ++ ks) (sure_parts ms)

sure_rules : (rs : List Rule) → flat_map sure (map (λ r. Some r) rs) ≡ flat_map key_by rs
sure_rules [] = refl
sure_rules (r ∷ rs) = ap (λ ks. key_by r ++ ks) (sure_rules rs)

keys_named : (names : List Text) (rs : List Rule) → length names ≡ length rs → keys_of (named names rs) ≡ flat_map key_by rs
keys_named [] [] h = refl
keys_named [] (r ∷ rs) h = absurd (omega (arith, h))
keys_named (n ∷ ns) [] h = absurd (omega (arith, h))
keys_named (n ∷ ns) (r ∷ rs) h = ap (λ ks. key_by r ++ ks) (keys_named ns rs (omega (arith, h)))

-- the keys of the constraints that are made are those of the text
pub keys_made : (s : Sight) (es : List TableElement) (names : List Text) (rs : List Rule) → map (λ (m : Meaning Rule). m.part) (all_rules s es) ≡ map (λ r. Some r) rs → length names ≡ length rs
    → keys_of (named names rs) ≡ keys_written s.own.names es
keys_made s es names rs parts many =
    keys_named names rs many ∙ sym (sure_rules rs) ∙ ap (flat_map sure) (sym parts) ∙ sym (sure_parts (all_rules s es)) ∙ all_keyed s es

-- ---- what each rule meets

abbrev pub Good : (Rule → Bool) → Meaning Rule → Type 0
Good test m = m.faults ≡ [] → option_map_or test m.part true ≡ true

both_good : (test : Rule → Bool) (xs ys : List (Meaning Rule)) → AllByRecursion (Good test) xs → AllByRecursion (Good test) ys → AllByRecursion (Good test) (xs ++ ys)
both_good test [] ys a b = b
both_good test (x ∷ xs) ys a b = (a.0, both_good test xs ys a.1 b)

pub made_good : {A : Type 0} (test : Rule → Bool) (make : A → Rule) → ((a : A) → test (make a) ≡ true) → (o : Option A) → option_map_or test (option_map make o) true ≡ true
made_good test make so None = refl
made_good test make so (Some a) = so a

-- a test that each rule of a text meets, as what the rule means has no faults
pub record AreGood (s : Sight) (test : Rule → Bool) : Type 0 where
  pub of_not_null : (name : Identifier) → Good test (not_null s.own name)
  pub of_primary : (list : List Identifier) → are_some list ≡ true → Good test (primary_key s.own list)
  pub of_unique : (list : List Identifier) → are_some list ≡ true → Good test (unique s.own list)
  pub of_check : (e : Expression) → Good test (check s.tables e)
  pub of_reference : (at : ℕ) (list : List Identifier) (key : ForeignKey) → are_some list ≡ true → Good test (reference s at list key)

-- a test of foreign keys alone
pub record IsOfKeys (test : Rule → Bool) : Type 0 where
  pub not_null : (column : ℕ) → test (rule.NotNull column) ≡ true
  pub primary : (columns : List ℕ) → test (rule.PrimaryKey columns) ≡ true
  pub unique : (columns : List ℕ) → test (rule.Unique columns) ≡ true
  pub check : (condition : Expr) → test (rule.Check condition) ≡ true

pub keys_good : (s : Sight) (test : Rule → Bool) → IsOfKeys test → ((at : ℕ) (list : List Identifier) (key : ForeignKey) → Good test (reference s at list key)) → AreGood s test
keys_good s test of_keys good = record {
  of_not_null = λ name h. made_good test rule.NotNull of_keys.not_null (place_in s.own.names name.name);
  of_primary = λ list some h. made_good test rule.PrimaryKey of_keys.primary (places_in s.own.names list);
  of_unique = λ list some h. made_good test rule.Unique of_keys.unique (places_in s.own.names list);
  of_check = λ e h. made_good test rule.Check of_keys.check (tree_in (check_meaning s.tables e)).part;
  of_reference = λ at list key some h. good at list key h;
}

module _ (s : Sight) (test : Rule → Bool) (good : AreGood s test) where
  column_good : (name : Identifier) (r : ColumnRule) → Good test (column_rule s name r)
  column_good name column.NotNull h = good.of_not_null name h
  column_good name column.PrimaryKey h = good.of_primary (name ∷ []) refl h
  column_good name column.Unique h = good.of_unique (name ∷ []) refl h
  column_good name (column.Check e) h = good.of_check e h
  column_good name (column.References key) h = good.of_reference name.at (name ∷ []) key refl h

  table_good : (at : ℕ) (r : TableRule) → is_offered_rule r ≡ true → Good test (table_rule s at r)
  table_good at (table.PrimaryKey list) some h = good.of_primary list some h
  table_good at (table.Unique list) some h = good.of_unique list some h
  table_good at (table.Check e) some h = good.of_check e h
  table_good at (table.ForeignKey list key) some h = good.of_reference at list key some h

  columns_good : (name : Identifier) (ks : List ColumnConstraint) → AllByRecursion (Good test) (map (λ (k : ColumnConstraint). column_rule s name k.rule) ks)
  columns_good name [] = tt
  columns_good name (k ∷ ks) = (column_good name k.rule, columns_good name ks)

  element_good : (e : TableElement) → is_offered_element e ≡ true → AllByRecursion (Good test) (element_rules s e)
  element_good (element.Column c) some = columns_good c.name c.constraints
  element_good (element.Constraint t) some = (table_good t.at t.rule some, tt)

  pub all_good : (es : List TableElement) → list_all is_offered_element es ≡ true → AllByRecursion (Good test) (all_rules s es)
  all_good [] some = tt
  all_good (e ∷ es) some =
      let parts = and_parts (is_offered_element e) (list_all is_offered_element es) some in
      both_good test (element_rules s e) (all_rules s es) (element_good e parts.0) (all_good es parts.1)

parts_good : (test : Rule → Bool) (ms : List (Meaning Rule)) → AllByRecursion (Good test) ms → flat_map (λ (m : Meaning Rule). m.faults) ms ≡ [] → list_all (λ (m : Meaning Rule). option_map_or test m.part true) ms ≡ true
parts_good test [] good h = refl
parts_good test (m ∷ ms) good h =
    let faults = none_both m.faults (flat_map (λ (x : Meaning Rule). x.faults) ms) h in
    and_from (option_map_or test m.part true) (list_all (λ (x : Meaning Rule). option_map_or test x.part true) ms) (good.0 faults.0) (parts_good test ms good.1 faults.1)

named_good : (test : Rule → Bool) (names : List Text) (rs : List Rule) → list_all test rs ≡ true → list_all (λ (c : Constraint). test c.rule) (named names rs) ≡ true
named_good test [] rs h = refl
named_good test (n ∷ ns) [] h = refl
named_good test (n ∷ ns) (r ∷ rs) h = let parts = and_parts (test r) (list_all test rs) h in and_from (test r) (list_all (λ (c : Constraint). test c.rule) (named ns rs)) parts.0 (named_good test ns rs parts.1)

-- where no rule has a fault, each constraint that is made meets what they meet
pub rules_good : (test : Rule → Bool) (ms : List (Meaning Rule)) (names : List Text) (rs : List Rule) → AllByRecursion (Good test) ms → flat_map (λ (m : Meaning Rule). m.faults) ms ≡ []
    → map (λ (m : Meaning Rule). m.part) ms ≡ map (λ r. Some r) rs → list_all (λ (c : Constraint). test c.rule) (named names rs) ≡ true
rules_good test ms names rs good faults parts =
    named_good test names rs
    (sym (list_all-map (λ (o : Option Rule). option_map_or test o true) (λ r. Some r) rs) ∙ ap (list_all (λ (o : Option Rule). option_map_or test o true)) (sym parts)
    ∙ list_all-map (λ (o : Option Rule). option_map_or test o true) (λ (m : Meaning Rule). m.part) ms ∙ parts_good test ms good faults)
