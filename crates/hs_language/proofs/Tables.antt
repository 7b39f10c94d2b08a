-- Tables of a catalogue, and the things that belong to them.
use Rattle.std.proofs.Common.{◌≡◌, ℕ, ◌<◌, ◌≤◌, ◌==◌, ◌&&◌, Bool, true, false, nat_eq, nat_lt, List, [], ◌∷◌, Option, Some, None, is_some, find, refl, sym, ap, ◌∙◌, subst, arith}
use Rattle.std.proofs.lemmas.Bool.{and_from, and_parts, both_ways, eqb-true, eq-eqb, lt-ltb, ne_eqb, ltb-true}
use Rattle.std.specs.List.{All, flat_map, list_all}
use Rattle.std.specs.Option.{option_map_or}
use Rattle.std.specs.Str.{bytes_eq}
use Rattle.hs_base.specs.declared.numbers.TableNo.{TableNo}
use Rattle.hs_plan.specs.declared.definition.Column.{Column}
use Rattle.hs_plan.specs.declared.definition.Constraint.{Constraint}
use Rattle.hs_schema.specs.Catalogue.{Text, Things, columns_in, constraints_in, constraints_made, is_of, is_table, made, number_of, own, parts_made, table_in, table_numbered, table_with}
use Rattle.hs_schema.specs.declared.table.Table.{Table}
use Rattle.hs_schema.specs.declared.thing.Part.{Part}
use Rattle.hs_schema.specs.declared.thing.Part.TheVariants as part
use Rattle.hs_schema.specs.declared.thing.Thing.{Thing}
use Rattle.hs_schema.specs.Whole.{IsWhole}
use Rattle.hs_schema.proofs.After.{number_of_name}
use Rattle.hs_schema.proofs.Lists.{same_text, text_itself}
use Rattle.hs_schema.proofs.Things.{same_number}
use Rattle.hs_language.proofs.Lists.{all_filtered}
use Rattle.hs_language.proofs.Whole.{all_test}

pub itself : (n : ℕ) → nat_eq n n ≡ true
itself n = eq-eqb n n refl

pub turned : (a b : ℕ) → (a == b) ≡ nat_eq b a
turned a b = by (nat_eq b a) refl
  where
    by : (c : Bool) → nat_eq b a ≡ c → (a == b) ≡ c
    by true h = eq-eqb a b (sym (eqb-true b a h))
    by false h = ne_eqb a b (λ e. both_ways (nat_eq b a) h (eq-eqb b a (sym e)))

-- ---- a table that is there

pub some_there : {X : Type 0} (P : Type 0) (o : Option X) → is_some o ≡ true → ((x : X) → o ≡ Some x → P) → P
some_there P None h so = absurd (let no : false ≡ true = h in cc)
some_there P (Some x) h so = so x refl

-- a thing of a table that passes a test
pub record OneOf (p : Thing → Bool) (n : TableNo) : Type 0 where
  pub thing : Thing
  pub number : n.0 ≡ thing.table.0
  pub passes : p thing ≡ true

-- where all things pass, one of each table that is there does
pub one_of : (p : Thing → Bool) (things : Things) (n : TableNo) → list_all p things ≡ true → is_some (table_numbered things n) ≡ true → OneOf p n
one_of p things n all there = by (own things n) (all_filtered (is_of n) p (λ t. nat_eq n.0 t.table.0 && p t) (λ t of h. and_from (nat_eq n.0 t.table.0) (p t) of h) things all) there
  where
    by : (ts : Things) → list_all (λ (t : Thing). nat_eq n.0 t.table.0 && p t) ts ≡ true → is_some (table_in n ts) ≡ true → OneOf p n
    by [] h there = absurd (let no : false ≡ true = there in cc)
    by (t ∷ ts) h there =
        let parts = and_parts (nat_eq n.0 t.table.0 && p t) _ h in
        let both = and_parts (nat_eq n.0 t.table.0) (p t) parts.0 in
        record { thing = t; number = eqb-true n.0 t.table.0 both.0; passes = both.1 }

-- it has a number below those that are new
pub number_below : (things : Things) (number : ℕ) → All (λ t. t.number < number) things → All (λ t. t.table.0 ≤ t.number) things → (n : TableNo) → is_some (table_numbered things n) ≡ true → nat_eq number n.0 ≡ false
number_below things number below order n there =
    let each : All (λ (t : Thing). t.table.0 < number) things = λ k d lt. (let one = below k d lt in let two = order k d lt in omega (arith, one, two)) in
    let found : OneOf (λ t. nat_lt t.table.0 number) n = one_of (λ t. nat_lt t.table.0 number) things n (all_test (λ (t : Thing). nat_lt t.table.0 number) (λ (t : Thing). t.table.0 < number) (λ t lt. lt-ltb t.table.0 number lt) things each) there in
    let lower = ltb-true found.thing.table.0 number found.passes in
    let same = found.number in
    ne_eqb number n.0 (λ e. omega (arith, e, lower, same))

-- ---- names and numbers

-- two names are one exactly where their tables' numbers are
pub same_choice : (things : Things) (table : Text) (n : TableNo) → IsWhole things → number_of things table ≡ Some n → (name : Text) (m : TableNo) → number_of things name ≡ Some m → bytes_eq name table ≡ nat_eq n.0 m.0
same_choice things table n whole at name m is = by (bytes_eq name table) (nat_eq n.0 m.0) refl refl
  where
    by : (b c : Bool) → bytes_eq name table ≡ b → nat_eq n.0 m.0 ≡ c → bytes_eq name table ≡ nat_eq n.0 m.0
    by true true p q = p ∙ sym q
    by false false p q = p ∙ sym q
    by true false p q =
        let numbers : Some m ≡ Some n = sym is ∙ ap (number_of things) (same_text name table p) ∙ at in
        let same : m ≡ n = cc in
        absurd (both_ways (nat_eq n.0 m.0) q (ap (λ (k : TableNo). nat_eq n.0 k.0) same ∙ itself n.0))
    by false true p q =
        let same : n ≡ m = same_number n m q in
        let a = number_of_name things name n whole (subst (λ k. number_of things name ≡ Some k) (sym same) is) in
        let b = number_of_name things table n whole at in
        let tables : Some a.0 ≡ Some b.0 = sym a.1 ∙ b.1 in
        let one : a.0 ≡ b.0 = cc in
        let names : name ≡ table = sym a.2 ∙ ap (λ (t : Table). t.name) one ∙ b.2 in
        absurd (both_ways (bytes_eq name table) p (ap (bytes_eq name) (sym names) ∙ text_itself name))

-- ---- its constraints

-- none where there is no table
abbrev pub constraints_if : Option Table → List Constraint
constraints_if o = option_map_or (λ (t : Table). t.constraints) o []

constraints_with : (p : Part) (n : TableNo) (columns : List Column) (constraints : List Constraint) (t : Table) → table_with p n columns constraints ≡ Some t → t.constraints ≡ constraints
constraints_with (part.Table name storage created) n columns constraints t h = ap (λ o. option_map_or (λ (x : Table). x.constraints) o constraints) (sym h)
constraints_with (part.Column column) n columns constraints t h = cc
constraints_with (part.Constraint constraint) n columns constraints t h = cc

pub constraints_own : (things : Things) (n : TableNo) (t : Table) → table_numbered things n ≡ Some t → t.constraints ≡ flat_map (λ (x : Thing). constraints_in x.part) (own things n)
constraints_own things n t h = by (find (λ (x : Thing). is_table x.part) (own things n)) h
  where
    columns : List Column
    columns = flat_map (λ (x : Thing). columns_in x.part) (own things n)

    constraints : List Constraint
    constraints = flat_map (λ (x : Thing). constraints_in x.part) (own things n)

    by : (o : Option Thing) → option_map_or (λ (x : Thing). table_with x.part n columns constraints) o None ≡ Some t → t.constraints ≡ constraints
    by None h = cc
    by (Some x) h = constraints_with x.part n columns constraints t h

-- ---- what is made

module _ (p : Thing → Bool) (number : ℕ) (table : TableNo) (so : (what : Part) → p (made number table what) ≡ true) where
  pub all_made : (constraints : List Constraint) → list_all p (constraints_made number table constraints) ≡ true
  all_made [] = refl
  all_made (c ∷ cs) = and_from (p (made number table (part.Constraint c))) (list_all p (constraints_made number table cs)) (so (part.Constraint c)) (all_made cs)

  pub all_parts : (column : Option Column) (constraints : List Constraint) → list_all p (parts_made number column constraints table) ≡ true
  all_parts None constraints = all_made constraints
  all_parts (Some c) constraints = and_from (p (made number table (part.Column c))) (list_all p (constraints_made number table constraints)) (so (part.Column c)) (all_made constraints)
