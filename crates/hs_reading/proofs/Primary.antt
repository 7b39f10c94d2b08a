-- How many primary keys a definition adds.
use Rattle.std.proofs.Common.{◌≡◌, ℕ, suc, ◌+◌, ◌≤◌, Bool, true, false, cond, ◌==◌, nat_le, length, filter, find, List, [], ◌∷◌, ◌++◌, map, Option, None, Some, refl, sym, ap, ◌∙◌, arith, if◌then◌else◌}
use Rattle.std.proofs.lemmas.Bool.{le-leb, or_right}
use Rattle.std.specs.Option.{option_map}
use Rattle.hs_ast.specs.declared.definition.ColumnConstraint.{ColumnConstraint}
use Rattle.hs_ast.specs.declared.definition.ColumnRule.{ColumnRule}
use Rattle.hs_ast.specs.declared.definition.ColumnRule.TheVariants as column
use Rattle.hs_ast.specs.declared.definition.TableElement.{TableElement}
use Rattle.hs_ast.specs.declared.definition.TableElement.TheVariants as element
use Rattle.hs_ast.specs.declared.definition.TableRule.{TableRule}
use Rattle.hs_ast.specs.declared.definition.TableRule.TheVariants as table
use Rattle.hs_ast.specs.declared.word.Identifier.{Identifier}
use Rattle.hs_elements.specs.Columns.{place_in}
use Rattle.hs_elements.specs.Faults.{Text, fault_at, where_so}
use Rattle.hs_language.specs.Limits.{primary_keys, stays_within}
use Rattle.hs_meaning.specs.Parts.{Meaning, tree_in}
use Rattle.hs_meaning.specs.Statements.{check_meaning}
use Rattle.hs_outlines.specs.ForeignKeys.{foreign_key}
use Rattle.hs_outlines.specs.Named.{AreNamed, by_column, clash, first_key, is_primary, is_primary_key, kind_of_column, kind_of_table, name_faults, primary_name, second, written, written_in}
use Rattle.hs_outlines.specs.Outline.{places_in}
use Rattle.hs_outlines.specs.declared.written.Written.{Written}
use Rattle.hs_plan.specs.declared.definition.Constraint.{Constraint}
use Rattle.hs_plan.specs.declared.definition.Rule.{Rule}
use Rattle.hs_plan.specs.declared.definition.Rule.TheVariants as rule
use Rattle.hs_plan.specs.declared.fault.Cause.TheVariants as cause
use Rattle.hs_schema.specs.Catalogue.{Things}
use Rattle.hs_tables.specs.Additions.{named}
use Rattle.hs_tables.specs.Rules.{all_rules, column_rule, element_rules, table_rule}
use Rattle.hs_tables.specs.Site.{Sight}
use Rattle.hs_reading.proofs.Faults.{none_both}

-- ---- rules and the kinds that are written

abbrev IsKind : Meaning Rule → Written → Type 0
IsKind m w = (r : Rule) → m.part ≡ Some r → is_primary_key r ≡ is_primary w.kind

-- one beside the other
abbrev AreKinds : List (Meaning Rule) → List Written → Type 0
AreKinds [] [] = Unit {0}
AreKinds [] (w ∷ ws) = ⊥
AreKinds (m ∷ ms) [] = ⊥
AreKinds (m ∷ ms) (w ∷ ws) = IsKind m w × AreKinds ms ws

made_kind : {A : Type 0} (make : A → Rule) (b : Bool) → ((a : A) → is_primary_key (make a) ≡ b) → (o : Option A) (r : Rule) → option_map make o ≡ Some r → is_primary_key r ≡ b
made_kind make b so None r h = absurd (let no : None ≡ Some r = h in cc)
made_kind make b so (Some a) r h = let same : make a ≡ r = cc in sym (ap is_primary_key same) ∙ so a

both_kinds : (ms ns : List (Meaning Rule)) (ws vs : List Written) → AreKinds ms ws → AreKinds ns vs → AreKinds (ms ++ ns) (ws ++ vs)
both_kinds [] ns [] vs a b = b
both_kinds [] ns (w ∷ ws) vs a b = absurd a
both_kinds (m ∷ ms) ns [] vs a b = absurd a
both_kinds (m ∷ ms) ns (w ∷ ws) vs a b = (a.0, both_kinds ms ns ws vs a.1 b)

module _ (s : Sight) where
  column_kind : (name : Identifier) (k : ColumnRule) (r : Rule) → (column_rule s name k).part ≡ Some r → is_primary_key r ≡ is_primary (kind_of_column k)
  column_kind name column.NotNull r h = made_kind rule.NotNull false (λ a. refl) (place_in s.own.names name.name) r h
  column_kind name column.PrimaryKey r h = made_kind rule.PrimaryKey true (λ a. refl) (places_in s.own.names (name ∷ [])) r h
  column_kind name column.Unique r h = made_kind rule.Unique false (λ a. refl) (places_in s.own.names (name ∷ [])) r h
  column_kind name (column.Check e) r h = made_kind rule.Check false (λ a. refl) (tree_in (check_meaning s.tables e)).part r h
  column_kind name (column.References key) r h = made_kind rule.ForeignKey false (λ a. refl) (foreign_key s.things name.at s.own (name ∷ []) key).part r h

  table_kind : (at : ℕ) (k : TableRule) (r : Rule) → (table_rule s at k).part ≡ Some r → is_primary_key r ≡ is_primary (kind_of_table k)
  table_kind at (table.PrimaryKey list) r h = made_kind rule.PrimaryKey true (λ a. refl) (places_in s.own.names list) r h
  table_kind at (table.Unique list) r h = made_kind rule.Unique false (λ a. refl) (places_in s.own.names list) r h
  table_kind at (table.Check e) r h = made_kind rule.Check false (λ a. refl) (tree_in (check_meaning s.tables e)).part r h
  table_kind at (table.ForeignKey list key) r h = made_kind rule.ForeignKey false (λ a. refl) (foreign_key s.things at s.own list key).part r h

  columns_kinds : (name : Identifier) (ks : List ColumnConstraint) → AreKinds (map (λ (k : ColumnConstraint). column_rule s name k.rule) ks) (map by_column ks)
  columns_kinds name [] = tt
  columns_kinds name (k ∷ ks) = (column_kind name k.rule, columns_kinds name ks)

  element_kinds : (e : TableElement) → AreKinds (element_rules s e) (written_in e)
  element_kinds (element.Column c) = columns_kinds c.name c.constraints
  element_kinds (element.Constraint t) = (table_kind t.at t.rule, tt)

  all_kinds : (es : List TableElement) → AreKinds (all_rules s es) (written es)
  all_kinds [] = tt
  all_kinds (e ∷ es) = both_kinds (element_rules s e) (all_rules s es) (written_in e) (written es) (element_kinds e) (all_kinds es)

-- ---- as many of each

abbrev primary_written : List Written → List Written
primary_written ws = filter (λ (w : Written). is_primary w.kind) ws

abbrev primary_rules : List Rule → List Rule
primary_rules rs = filter is_primary_key rs

counted : (ms : List (Meaning Rule)) (ws : List Written) (rs : List Rule) → AreKinds ms ws → map (λ (m : Meaning Rule). m.part) ms ≡ map (λ r. Some r) rs → length (primary_rules rs) ≡ length (primary_written ws)
counted [] [] [] a h = refl
counted [] [] (r ∷ rs) a h = absurd (let no : [] ≡ Some r ∷ map (λ q. Some q) rs = h in cc)
counted [] (w ∷ ws) rs a h = absurd a
counted (m ∷ ms) [] rs a h = absurd a
counted (m ∷ ms) (w ∷ ws) [] a h = absurd (let no : m.part ∷ map (λ (n : Meaning Rule). n.part) ms ≡ [] = h in cc)
counted (m ∷ ms) (w ∷ ws) (r ∷ rs) a h =
    let here : m.part ≡ Some r = cc in
    let rest : map (λ (n : Meaning Rule). n.part) ms ≡ map (λ q. Some q) rs = cc in
    by (is_primary_key r) (is_primary w.kind) (a.0 r here) (counted ms ws rs a.1 rest)
  where
    by : (b c : Bool) → b ≡ c → length (primary_rules rs) ≡ length (primary_written ws) → length (cond b (r ∷ primary_rules rs) (primary_rules rs)) ≡ length (cond c (w ∷ primary_written ws) (primary_written ws))
    by true true e same = ap suc same
    by false false e same = same
    by true false e same = absurd (let no : true ≡ false = e in cc)
    by false true e same = absurd (let no : false ≡ true = e in cc)

named_counted : (names : List Text) (rs : List Rule) → length names ≡ length rs → primary_keys (named names rs) ≡ length (primary_rules rs)
named_counted [] [] h = refl
named_counted [] (r ∷ rs) h = absurd (omega (arith, h))
named_counted (n ∷ ns) [] h = absurd (omega (arith, h))
named_counted (n ∷ ns) (r ∷ rs) h = by (filter (λ (c : Constraint). is_primary_key c.rule) (named ns rs)) (is_primary_key r) (named_counted ns rs (omega (arith, h)))
  where
    by : (others : List Constraint) (b : Bool) → length others ≡ length (primary_rules rs) → length (cond b ((record { name = n; rule = r }) ∷ others) others) ≡ length (cond b (r ∷ primary_rules rs) (primary_rules rs))
    by others true same = ap suc same
    by others false same = same

-- ---- at most one

-- none behind a first one, and else one at most
abbrev IsFew : Option Text → ℕ → Type 0
IsFew (Some name) count = count ≡ 0
IsFew None count = count ≤ 1

few : (things : Things) (table : Text) (given : List Text) (first : Option Text) (ws : List Written) (names : List Text) → AreNamed things table given ws names → name_faults things given first ws names ≡ [] → IsFew first (length (primary_written ws))
few things table given (Some f) [] names are h = refl
few things table given None [] names are h = omega arith
few things table given first (w ∷ ws) [] are h = absurd are
few things table given (Some f) (w ∷ ws) (n ∷ ns) are h =
    let more = none_both (clash things given w.name ++ second (Some f) w) (name_faults things (given ++ n ∷ []) (Some f) ws ns) h in
    by (is_primary w.kind) (none_both (clash things given w.name) (second (Some f) w) more.0).1 (few things table (given ++ n ∷ []) (Some f) ws ns are.1 more.1)
  where
    by : (b : Bool) → where_so b (fault_at w.at (cause.Exists f)) ≡ [] → length (primary_written ws) ≡ 0 → length (cond b (w ∷ primary_written ws) (primary_written ws)) ≡ 0
    by true none rest = absurd (let no : fault_at w.at (cause.Exists f) ∷ [] ≡ [] = none in cc)
    by false none rest = rest
few things table given None (w ∷ ws) (n ∷ ns) are h =
    let more = none_both (clash things given w.name ++ second None w) (name_faults things (given ++ n ∷ []) (first_key None w n) ws ns) h in
    by (is_primary w.kind) (few things table (given ++ n ∷ []) (first_key None w n) ws ns are.1 more.1)
  where
    by : (b : Bool) → IsFew (if b then Some n else None) (length (primary_written ws)) → length (cond b (w ∷ primary_written ws) (primary_written ws)) ≤ 1
    by true rest = omega (arith, rest)
    by false rest = rest

none_before : (cs : List Constraint) → primary_name cs ≡ None → primary_keys cs ≡ 0
none_before [] h = refl
none_before (c ∷ cs) h = by (is_primary_key c.rule) h (none_before cs)
  where
    by : (b : Bool) → option_map (λ (k : Constraint). k.name) (cond b (Some c) (find (λ (k : Constraint). is_primary_key k.rule) cs)) ≡ None → (primary_name cs ≡ None → primary_keys cs ≡ 0)
        → length (cond b (c ∷ filter (λ (k : Constraint). is_primary_key k.rule) cs) (filter (λ (k : Constraint). is_primary_key k.rule) cs)) ≡ 0
    by true h rest = absurd (let no : Some c.name ≡ None = h in cc)
    by false h rest = rest h

within : (before : List Constraint) (count : ℕ) (first : Option Text) → primary_name before ≡ first → IsFew first count → stays_within 1 (primary_keys before) count ≡ true
within before count (Some f) e none = ap (stays_within 1 (primary_keys before)) none
within before count None e few_more =
    let none = none_before before e in
    or_right (count == 0) (nat_le (primary_keys before + count) 1) (le-leb (primary_keys before + count) 1 (omega (arith, none, few_more)))

-- a text without faults adds one at most, and none to a table that has one
pub one_primary : (s : Sight) (things : Things) (table : Text) (before : List Constraint) (es : List TableElement) (names : List Text) (rs : List Rule) → AreNamed things table [] (written es) names
    → name_faults things [] (primary_name before) (written es) names ≡ [] → map (λ (m : Meaning Rule). m.part) (all_rules s es) ≡ map (λ r. Some r) rs → length names ≡ length rs
    → stays_within 1 (primary_keys before) (primary_keys (named names rs)) ≡ true
one_primary s things table before es names rs are well parts many =
    ap (stays_within 1 (primary_keys before)) (named_counted names rs many ∙ counted (all_rules s es) (written es) rs (all_kinds s es) parts)
    ∙ within before (length (primary_written (written es))) (primary_name before) refl (few things table [] (primary_name before) (written es) names are well)
