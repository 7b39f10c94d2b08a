-- Names of constraints: in catalogues, in what they are violated by, and behind definitions.
use Rattle.std.proofs.Common.{◌≡◌, ℕ, Bool, true, false, cond, List, [], ◌∷◌, ◌++◌, map, filter, refl, ◌∙◌}
use Rattle.std.specs.Prelude.{◌&&◌, not, find, Option, None, Some, if◌then◌else◌}
use Rattle.std.specs.Option.{option_map, option_map_or, option_or}
use Rattle.std.proofs.lemmas.Bool.{and_from, and_parts}
use Rattle.std.proofs.lemmas.List.Folds.{list_all-append}
use Rattle.hs_base.specs.declared.numbers.TableNo.{TableNo}
use Rattle.hs_entries.specs.Parts.{lacks}
use Rattle.hs_plan.specs.declared.definition.Column.{Column}
use Rattle.hs_plan.specs.declared.definition.Constraint.{Constraint}
use Rattle.hs_plan.specs.declared.definition.Definition.{Definition}
use Rattle.hs_plan.specs.declared.definition.Definition.TheVariants as d
use Rattle.hs_plan.specs.declared.definition.ForeignKey.{ForeignKey}
use Rattle.hs_plan.specs.declared.definition.Rule.{Rule}
use Rattle.hs_plan.specs.declared.definition.Rule.TheVariants as rule
use Rattle.hs_changes.specs.Settings.{Maps}
use Rattle.hs_schema.specs.Catalogue.{Text, Things, after, constraints_in, constraints_made, is_constraint, is_of, made, number_of, owner_of, parts_made}
use Rattle.hs_schema.specs.declared.thing.Part.TheVariants as part
use Rattle.hs_schema.specs.declared.thing.Thing.{Thing}
use Rattle.hs_sentences.specs.declared.violation.Violation.{Violation}
use Rattle.hs_sentences.specs.declared.violation.Violation.TheVariants as is
use Rattle.hs_sentences.specs.Asking.{Test, any_of, any_row}
use Rattle.hs_sentences.specs.Sentences.{has_gap, is_double}
use Rattle.hs_sentences.specs.Violations.{Checks, Touched, constraints_of, first_some, orphans, violated, violation}
use Rattle.hs_turns.specs.Each.{Each}
use Rattle.hs_turns.proofs.Lists.{each_append}
use Rattle.hs_plainsql.specs.Naming.{are_named, are_single, is_named, is_single, names_single}

-- ---- constraints

abbrev SingleAt : (ℕ × Constraint) → Type 0
SingleAt c = lacks 10 c.1.name ≡ true

with_table : (n : ℕ) (cs : List Constraint) → are_single cs ≡ true → Each SingleAt (map (λ c. (n, c)) cs)
with_table n [] h = tt
with_table n (c ∷ cs) h = let parts = and_parts (is_single c) (are_single cs) h in (parts.0, with_table n cs parts.1)

each_single : (things : Things) → are_named things ≡ true → Each SingleAt (constraints_of things)
each_single [] h = tt
each_single (t ∷ ts) h =
    let parts = and_parts (is_named t) (are_named ts) h in
    each_append SingleAt (map (λ c. (t.table.0, c)) (constraints_in t.part)) (constraints_of ts) (with_table t.table.0 (constraints_in t.part) parts.0) (each_single ts parts.1)

-- ---- violations

abbrev pub name_in : Violation → Text
name_in (is.Null name) = name
name_in (is.Check name) = name
name_in (is.Unique name) = name
name_in (is.Parent name) = name
name_in (is.Child name) = name

abbrev pub SingleName : Option Violation → Type 0
SingleName None = Unit {0}
SingleName (Some v) = lacks 10 (name_in v) ≡ true

either : (b : Bool) (x y : Option Violation) → SingleName x → SingleName y → SingleName (if b then x else y)
either true x y h k = h
either false x y h k = k

violated_single : (checks : Checks) (things : Things) (maps : Maps) (look put : Test → Bool) (left : ForeignKey → Bool) (table : ℕ) (name : Text) (its : Rule) → lacks 10 name ≡ true → SingleName (violated checks things maps look put left table name its)
violated_single checks things maps look put left table name (rule.NotNull column) h = either (look (has_gap (column ∷ []))) (Some (is.Null name)) None h tt
violated_single checks things maps look put left table name (rule.PrimaryKey columns) h =
    either (look (has_gap columns)) (Some (is.Null name)) (if look (is_double columns (maps table)) then Some (is.Unique name) else None) h (either (look (is_double columns (maps table))) (Some (is.Unique name)) None h tt)
violated_single checks things maps look put left table name (rule.Unique columns) h = either (look (is_double columns (maps table))) (Some (is.Unique name)) None h tt
violated_single checks things maps look put left table name (rule.Check condition) h = either (look (λ number row. not (checks condition row))) (Some (is.Check name)) None h tt
violated_single checks things maps look put left table name (rule.ForeignKey key) h =
    either (put (orphans things maps key)) (Some (is.Parent name)) (if left key then Some (is.Child name) else None) h (either (left key) (Some (is.Child name)) None h tt)
violated_single checks things maps look put left table name (rule.Index columns) h = tt

or_single : (x y : Option Violation) → SingleName x → SingleName y → SingleName (option_or x y)
or_single None y h k = k
or_single (Some v) y h k = h

firsts_single : (checks : Checks) (things : Things) (touched : Touched) (maps : Maps) (cs : List (ℕ × Constraint)) → Each SingleAt cs → SingleName (first_some (map (violation checks things touched maps) cs))
firsts_single checks things touched maps [] all = tt
firsts_single checks things touched maps (c ∷ cs) all =
    or_single (violation checks things touched maps c) (first_some (map (violation checks things touched maps) cs)) (violated_single checks things maps (λ test. any_row test (maps c.0)) (λ test. any_of (touched c.0) test (maps c.0)) (λ key. any_row (orphans things maps key) (maps c.0)) c.0 c.1.name c.1.rule all.0) (firsts_single checks things touched maps cs all.1)

pub first_single : (checks : Checks) (things : Things) (touched : Touched) (maps : Maps) → are_named things ≡ true → SingleName (first_some (map (violation checks things touched maps) (constraints_of things)))
first_single checks things touched maps h = firsts_single checks things touched maps (constraints_of things) (each_single things h)

-- ---- the first constraint that passes a test

abbrev pub SingleText : Option Text → Type 0
SingleText None = Unit {0}
SingleText (Some name) = lacks 10 name ≡ true

found_by : (b : Bool) (c : ℕ × Constraint) (rest : Option (ℕ × Constraint)) → SingleAt c → SingleText (option_map (λ (x : ℕ × Constraint). x.1.name) rest) → SingleText (option_map (λ (x : ℕ × Constraint). x.1.name) (cond b (Some c) rest))
found_by true c rest h k = h
found_by false c rest h k = k

found_single : (test : (ℕ × Constraint) → Bool) (cs : List (ℕ × Constraint)) → Each SingleAt cs → SingleText (option_map (λ (x : ℕ × Constraint). x.1.name) (find test cs))
found_single test [] all = tt
found_single test (c ∷ cs) all = found_by (test c) c (find test cs) all.0 (found_single test cs all.1)

pub named_single : (test : (ℕ × Constraint) → Bool) (things : Things) → are_named things ≡ true → SingleText (option_map (λ (x : ℕ × Constraint). x.1.name) (find test (constraints_of things)))
named_single test things h = found_single test (constraints_of things) (each_single things h)

-- ---- catalogues behind definitions

both_named : (xs ys : Things) → are_named xs ≡ true → are_named ys ≡ true → are_named (xs ++ ys) ≡ true
both_named xs ys h k = list_all-append is_named xs ys ∙ and_from (are_named xs) (are_named ys) h k

kept_by : (b : Bool) (t : Thing) (ts : Things) → is_named t ≡ true → are_named ts ≡ true → are_named (cond b (t ∷ ts) ts) ≡ true
kept_by true t ts h k = and_from (is_named t) (are_named ts) h k
kept_by false t ts h k = k

kept_named : (test : Thing → Bool) (things : Things) → are_named things ≡ true → are_named (filter test things) ≡ true
kept_named test [] h = refl
kept_named test (t ∷ ts) h = let parts = and_parts (is_named t) (are_named ts) h in kept_by (test t) t (filter test ts) parts.0 (kept_named test ts parts.1)

made_named : (number : ℕ) (table : TableNo) (cs : List Constraint) → are_single cs ≡ true → are_named (constraints_made number table cs) ≡ true
made_named number table [] h = refl
made_named number table (c ∷ cs) h =
    let parts = and_parts (is_single c) (are_single cs) h in
    and_from (is_named (made number table (part.Constraint c))) (are_named (constraints_made number table cs)) (and_from (is_single c) true parts.0 refl) (made_named number table cs parts.1)

if_there : (make : TableNo → Things) (found : Option TableNo) (things : Things) → are_named things ≡ true → ((t : TableNo) → are_named (make t) ≡ true) → are_named (option_map_or make found things) ≡ true
if_there make None things h k = h
if_there make (Some t) things h k = k t

one_more : (things : Things) (table : Text) (number : ℕ) (column : Option Column) (cs : List Constraint) → are_named things ≡ true → ((t : TableNo) → are_named (parts_made number column cs t) ≡ true) → are_named (option_map_or (λ t. things ++ parts_made number column cs t) (number_of things table) things) ≡ true
one_more things table number column cs h k = if_there (λ t. things ++ parts_made number column cs t) (number_of things table) things h (λ t. both_named things (parts_made number column cs t) h (k t))

pub after_named : (things : Things) (definition : Definition) (number : ℕ) → are_named things ≡ true → names_single definition ≡ true → are_named (after things definition number) ≡ true
after_named things (d.CreateTable storage name columns constraints) number h k = both_named things _ h (made_named number (record { 0 = number }) constraints k)
after_named things (d.DropTable name) number h k = if_there _ (number_of things name) things h (λ t. kept_named (λ x. not (is_of t x)) things h)
after_named things (d.AddColumn table column constraints) number h k = one_more things table number (Some column) constraints h (λ t. made_named number t constraints k)
after_named things (d.AddConstraint table constraint) number h k = one_more things table number None (constraint ∷ []) h (λ t. made_named number t (constraint ∷ []) (and_from (is_single constraint) true k refl))
after_named things (d.DropConstraint table name) number h k = if_there _ (number_of things table) things h (λ t. kept_named (λ x. not (is_of t x && is_constraint name x.part)) things h)
after_named things (d.CreateIndex table name columns) number h k =
    let its : Constraint = record { name = name; rule = rule.Index columns } in one_more things table number None (its ∷ []) h (λ t. made_named number t (its ∷ []) (and_from (is_single its) true k refl))
after_named things (d.DropIndex name) number h k = if_there _ (owner_of things name) things h (λ t. kept_named (λ x. not (is_of t x && is_constraint name x.part)) things h)
after_named things (d.SetControl control) number h k = h
after_named things (d.SetDefaultLevel serializable) number h k = h
