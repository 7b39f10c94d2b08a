-- How the look-ups of a list of things follow it when things come and go.
use Rattle.std.proofs.Common.{◌≡◌, ℕ, Bool, true, false, cond, not, ◌&&◌, nat_eq, filter, List, [], ◌∷◌, ◌++◌, Option, Some, None, is_some, refl, sym, ap, ◌∙◌, if◌then◌else◌, rules, arith}
use Rattle.std.proofs.lemmas.List.{append-nil}
use Rattle.std.proofs.lemmas.List.Elements.{filter-append}
use Rattle.std.specs.List.{flat_map, find}
use Rattle.std.specs.Map.{lookup}
use Rattle.std.specs.Option.{option_map, option_map_or}
use Rattle.std.specs.Str.{bytes_eq}
use Rattle.hs_base.specs.declared.numbers.TableNo.{TableNo}
use Rattle.hs_plan.specs.declared.definition.Column.{Column}
use Rattle.hs_plan.specs.declared.definition.Constraint.{Constraint}
use Rattle.hs_schema.specs.declared.table.Table.{Table}
use Rattle.hs_schema.specs.declared.thing.Part.{Part}
use Rattle.hs_schema.specs.declared.thing.Part.TheVariants as part
use Rattle.hs_schema.specs.declared.thing.Thing.{Thing}
use Rattle.hs_schema.specs.Catalogue.{Text, Things, is_of, is_table, own, columns_in, constraints_in, table_with, table_in, table_numbered, is_constraint, named, named_in, number_of}
use Rattle.hs_schema.specs.Kept.{without}
use Rattle.hs_schema.proofs.Filters.{filter-within, filter-apart, filter-swap, find-within, flat_map-skip, flat_map-filter}

-- ---- numbers of tables

pub same_number : (a b : TableNo) → nat_eq a.0 b.0 ≡ true → a ≡ b
same_number a b h = let same : a.0 ≡ b.0 = search (rules, h) in ap (λ (n : ℕ). let t : TableNo = record { 0 = n } in t) same

pub other_table : (a b : TableNo) → nat_eq a.0 b.0 ≡ false → (t : Thing) → is_of a t ≡ true → is_of b t ≡ false
other_table a b apart t h = grind (arith, apart, h)

-- ---- things that come

module _ (things more : Things) (table : Table) (own_all : filter (is_of table.number) more ≡ more) (stands : table_numbered (things ++ more) table.number ≡ Some table) where
  pub numbered : (m : TableNo) → cond (nat_eq table.number.0 m.0) (Some table) (table_numbered things m) ≡ table_numbered (things ++ more) m
  numbered m = by (nat_eq table.number.0 m.0) refl
    where
      by : (b : Bool) → nat_eq table.number.0 m.0 ≡ b → cond b (Some table) (table_numbered things m) ≡ table_numbered (things ++ more) m
      by true e = sym stands ∙ ap (table_numbered (things ++ more)) (same_number table.number m e)
      by false e =
          let none : filter (is_of m) more ≡ [] = ap (filter (is_of m)) (sym own_all) ∙ filter-apart (is_of m) (is_of table.number) (other_table table.number m e) more in
          let same : own (things ++ more) m ≡ own things m = filter-append (is_of m) things more ∙ ap (λ ts. own things m ++ ts) none ∙ append-nil (own things m) in
          ap (table_in m) (sym same)

-- ---- things that go

pub without_own : (things : Things) (table m : TableNo) → cond (nat_eq table.0 m.0) None (table_numbered things m) ≡ table_numbered (filter (λ t. not (is_of table t)) things) m
without_own things table m = by (nat_eq table.0 m.0) refl
  where
    by : (b : Bool) → nat_eq table.0 m.0 ≡ b → cond b None (table_numbered things m) ≡ table_numbered (filter (λ t. not (is_of table t)) things) m
    by true e = ap (table_in m) (sym (ap (λ k. filter (is_of k) (filter (λ t. not (is_of table t)) things)) (sym (same_number table m e)) ∙ filter-apart (is_of table) (λ t. not (is_of table t)) (λ t h. grind (arith, h)) things))
    by false e = ap (table_in m) (sym (filter-within (is_of m) (λ t. not (is_of table t)) (λ t h. grind (arith, h, e)) things))

-- a constraint is none of its table's columns, nor the table
pub columns_stay : (name : Text) (t : Thing) → not (is_constraint name t.part) ≡ false → columns_in t.part ≡ []
columns_stay name t h = by t.part h
  where
    by : (p : Part) → not (is_constraint name p) ≡ false → columns_in p ≡ []
    by (part.Table its storage columns) h = grind (arith, h)
    by (part.Column column) h = grind (arith, h)
    by (part.Constraint constraint) h = refl

pub table_stays : (name : Text) (t : Thing) → is_table t.part ≡ true → not (is_constraint name t.part) ≡ true
table_stays name t h = by t.part h
  where
    by : (p : Part) → is_table p ≡ true → not (is_constraint name p) ≡ true
    by (part.Table its storage columns) h = refl
    by (part.Column column) h = refl
    by (part.Constraint constraint) h = grind (arith, h)

pub constraints_stay : (name : Text) (p : Part) → filter (λ c. not (bytes_eq name c.name)) (constraints_in p) ≡ (if not (is_constraint name p) then constraints_in p else [])
constraints_stay name (part.Table its storage columns) = refl
constraints_stay name (part.Column column) = refl
constraints_stay name (part.Constraint constraint) = refl

-- a table's own things without a constraint are those of the table without it
pub table_without : (table : TableNo) (name : Text) (things : Things) → table_in table (filter (λ t. not (is_constraint name t.part)) things) ≡ option_map (without name) (table_in table things)
table_without table name things =
    let stay : Thing → Bool = λ t. not (is_constraint name t.part) in
    let head = find-within (λ (t : Thing). is_table t.part) stay (table_stays name) things in
    let columns = flat_map-skip (λ (t : Thing). columns_in t.part) stay (columns_stay name) things in
    let constraints = flat_map-filter (λ (t : Thing). constraints_in t.part) stay (λ c. not (bytes_eq name c.name)) (λ t. constraints_stay name t.part) things in
    (λ i. option_map_or (λ t. table_with t.part table (columns i) (constraints i)) (head i) None) ∙ by (find (λ (t : Thing). is_table t.part) things)
  where
    by : (o : Option Thing)
        → option_map_or (λ (t : Thing). table_with t.part table (flat_map (λ (x : Thing). columns_in x.part) things) (filter (λ c. not (bytes_eq name c.name)) (flat_map (λ (x : Thing). constraints_in x.part) things))) o None
        ≡ option_map (without name) (option_map_or (λ (t : Thing). table_with t.part table (flat_map (λ (x : Thing). columns_in x.part) things) (flat_map (λ (x : Thing). constraints_in x.part) things)) o None)
    by None = refl
    by (Some t) = one t.part
      where
        one : (p : Part)
            → table_with p table (flat_map (λ (x : Thing). columns_in x.part) things) (filter (λ c. not (bytes_eq name c.name)) (flat_map (λ (x : Thing). constraints_in x.part) things))
            ≡ option_map (without name) (table_with p table (flat_map (λ (x : Thing). columns_in x.part) things) (flat_map (λ (x : Thing). constraints_in x.part) things))
        one (part.Table its storage columns) = refl
        one (part.Column column) = refl
        one (part.Constraint constraint) = refl

pub dropped : (things : Things) (table m : TableNo) (name : Text)
    → (if nat_eq table.0 m.0 then option_map (without name) (table_numbered things m) else table_numbered things m)
    ≡ table_numbered (filter (λ t. not (is_of table t && is_constraint name t.part)) things) m
dropped things table m name = by (nat_eq table.0 m.0) refl
  where
    by : (b : Bool) → nat_eq table.0 m.0 ≡ b
        → (if b then option_map (without name) (table_numbered things m) else table_numbered things m) ≡ table_numbered (filter (λ t. not (is_of table t && is_constraint name t.part)) things) m
    by true e =
        sym (ap (table_in m) (filter-swap (is_of m) (λ t. not (is_of table t && is_constraint name t.part)) (λ t. not (is_constraint name t.part)) (λ t h. agree t (ap (λ k. is_of k t) (same_number table m e) ∙ h)) things)
        ∙ table_without m name (own things m))
      where
        agree : (t : Thing) → is_of table t ≡ true → not (is_of table t && is_constraint name t.part) ≡ not (is_constraint name t.part)
        agree t h = ap (λ b. not (b && is_constraint name t.part)) h
    by false e = ap (table_in m) (sym (filter-within (is_of m) (λ t. not (is_of table t && is_constraint name t.part)) (λ t h. stay t (other_table m table (flipped e) t h)) things))
      where
        flipped : nat_eq table.0 m.0 ≡ false → nat_eq m.0 table.0 ≡ false
        flipped h = grind (arith, h)

        stay : (t : Thing) → is_of table t ≡ false → not (is_of table t && is_constraint name t.part) ≡ true
        stay t h = ap (λ b. not (b && is_constraint name t.part)) h

-- ---- names of tables

table_shown : (n : TableNo) (columns : List Column) (constraints : List Constraint) (p : Part) → is_table p ≡ true → is_some (table_with p n columns constraints) ≡ true
table_shown n columns constraints (part.Table its storage created) h = refl
table_shown n columns constraints (part.Column column) h = h
table_shown n columns constraints (part.Constraint constraint) h = h

some_shown : (n : TableNo) (columns : List Column) (constraints : List Constraint) (ts : Things) → is_some (find (λ (t : Thing). is_table t.part) ts) ≡ true
    → is_some (option_map_or (λ (t : Thing). table_with t.part n columns constraints) (find (λ (t : Thing). is_table t.part) ts) None) ≡ true
some_shown n columns constraints [] h = h
some_shown n columns constraints (t ∷ ts) h = by (is_table t.part) (table_shown n columns constraints t.part) h (some_shown n columns constraints ts)
  where
    by : (b : Bool) → (b ≡ true → is_some (table_with t.part n columns constraints) ≡ true) → is_some (cond b (Some t) (find (λ (x : Thing). is_table x.part) ts)) ≡ true
        → (is_some (find (λ (x : Thing). is_table x.part) ts) ≡ true → is_some (option_map_or (λ (x : Thing). table_with x.part n columns constraints) (find (λ (x : Thing). is_table x.part) ts) None) ≡ true)
        → is_some (option_map_or (λ (x : Thing). table_with x.part n columns constraints) (cond b (Some t) (find (λ (x : Thing). is_table x.part) ts)) None) ≡ true
    by true here h rest = here refl
    by false here h rest = rest h

-- the table of a name is there
found_own : (things : Things) (name : Text) (n : TableNo) → lookup (bytes_eq name) (named things) ≡ Some n → is_some (find (λ (t : Thing). is_table t.part) (own things n)) ≡ true
found_own [] name n h = cc
found_own (t ∷ ts) name n h = by t.part refl (found_own ts name n) h
  where
    skip : is_some (find (λ (x : Thing). is_table x.part) (own ts n)) ≡ true → is_some (find (λ (x : Thing). is_table x.part) (cond (is_of n t) (t ∷ own ts n) (own ts n))) ≡ true
    skip rest = one (is_of n t)
      where
        two : (b : Bool) → is_some (cond b (Some t) (find (λ (x : Thing). is_table x.part) (own ts n))) ≡ true
        two true = refl
        two false = rest

        one : (b : Bool) → is_some (find (λ (x : Thing). is_table x.part) (cond b (t ∷ own ts n) (own ts n))) ≡ true
        one true = two (is_table t.part)
        one false = rest

    here : is_table t.part ≡ true → t.table ≡ n → is_some (find (λ (x : Thing). is_table x.part) (cond (is_of n t) (t ∷ own ts n) (own ts n))) ≡ true
    here tabled e =
        let itself : nat_eq n.0 n.0 ≡ true = search rules in
        let same : is_of n t ≡ true = ap (λ (k : TableNo). nat_eq n.0 k.0) e ∙ itself in
        ap (λ b. is_some (find (λ (x : Thing). is_table x.part) (cond b (t ∷ own ts n) (own ts n)))) same
        ∙ ap (λ b. is_some (cond b (Some t) (find (λ (x : Thing). is_table x.part) (own ts n)))) tabled

    either : (b : Bool) → is_table t.part ≡ true → (lookup (bytes_eq name) (named ts) ≡ Some n → is_some (find (λ (x : Thing). is_table x.part) (own ts n)) ≡ true)
        → cond b (Some t.table) (lookup (bytes_eq name) (named ts)) ≡ Some n → is_some (find (λ (x : Thing). is_table x.part) (cond (is_of n t) (t ∷ own ts n) (own ts n))) ≡ true
    either true tabled rest h = let e : t.table ≡ n = cc in here tabled e
    either false tabled rest h = skip (rest h)

    by : (p : Part) → t.part ≡ p → (lookup (bytes_eq name) (named ts) ≡ Some n → is_some (find (λ (x : Thing). is_table x.part) (own ts n)) ≡ true)
        → lookup (bytes_eq name) (named_in t.table p ++ named ts) ≡ Some n → is_some (find (λ (x : Thing). is_table x.part) (cond (is_of n t) (t ∷ own ts n) (own ts n))) ≡ true
    by (part.Table its storage created) e rest h = either (bytes_eq name its) (ap is_table e) rest h
    by (part.Column column) e rest h = skip (rest h)
    by (part.Constraint constraint) e rest h = skip (rest h)

pub named_there : (things : Things) (name : Text) (n : TableNo) → number_of things name ≡ Some n → is_some (table_numbered things n) ≡ true
named_there things name n h =
    some_shown n (flat_map (λ (x : Thing). columns_in x.part) (own things n)) (flat_map (λ (x : Thing). constraints_in x.part) (own things n)) (own things n) (found_own things name n h)
