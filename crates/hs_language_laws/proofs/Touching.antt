-- The rows and keys of a footprint are of the tables that its changes are of.
use Rattle.std.proofs.Common.{◌≡◌, inl, inr, ℕ, ◌+◌, ◌^◌, ◌==◌, Bool, true, false, ◌&&◌, nat_lt, List, [], ◌∷◌, map, Option, None, Some, if◌then◌else◌, refl, sym, ap, subst, ◌∙◌, eqb-true, eq-eqb}
use Rattle.std.specs.List.{Contains, flat_map}
use Rattle.std.specs.Option.{option_map_or}
use Rattle.std.proofs.lemmas.Bool.{and_parts}
use Rattle.std.proofs.lemmas.List.Elements.{Contains-append_cases}
use Rattle.hs_base.specs.declared.numbers.RowName.{RowName}
use Rattle.hs_base.specs.declared.numbers.RowNo.{RowNo}
use Rattle.hs_base.specs.declared.numbers.TableNo.{TableNo}
use Rattle.hs_claims.specs.declared.key_names.KeyName.{KeyName}
use Rattle.hs_claims.specs.Compatible.{same_key}
use Rattle.hs_claims.specs.Footprint.{has_key, has_row, has_table}
use Rattle.hs_plan.specs.declared.change.Change.{Change}
use Rattle.hs_plan.specs.declared.change.Change.TheVariants as change
use Rattle.hs_plan.specs.declared.definition.Constraint.{Constraint}
use Rattle.hs_plan.specs.declared.definition.ForeignKey.{ForeignKey}
use Rattle.hs_plan.specs.declared.definition.Rule.{Rule}
use Rattle.hs_plan.specs.declared.definition.Rule.TheVariants as rule
use Rattle.hs_index.specs.Keys.{has_null, key_in}
use Rattle.hs_values.specs.declared.value.Value.{Value}
use Rattle.hs_rel.proofs.Selecting.{head_or_tail, nothing_in}
use Rattle.hs_answer_laws.proofs.Groups.{from_map}
use Rattle.hs_schema.specs.Catalogue.{Things, number_of, table_named, table_numbered}
use Rattle.hs_schema.specs.declared.table.Table.{Table}
use Rattle.hs_changes.specs.Settings.{Maps}
use Rattle.hs_actions.specs.Work.{was}
use Rattle.hs_footprint.specs.Touched.{if_committed, key_columns, key_name, key_of, key_over, keys_at, keys_between, keys_changed, keys_from, keys_of, keys_over, name_of, named_by, named_in, named_over, named_value, columns_at, parents_at, parents_named, parents_of, rows_changed, rows_of}
use Rattle.hs_language_laws.proofs.Catalogue.{number_is}
use Rattle.hs_language_laws.proofs.Lists.{any_from, any_in, from_flat}

abbrev pub table_of : ℕ → TableNo
table_of n = record { 0 = n }

pub same_table : (t : TableNo) (n : ℕ) → (t.0 == n) ≡ true → t ≡ table_of n
same_table t n h = ap table_of (eqb-true t.0 n h)

-- ---- lists of tables

pub has_from : (tables : List TableNo) (t : TableNo) → Contains tables t → has_table t.0 tables ≡ true
has_from tables t found = any_from (λ (x : TableNo). x.0 == t.0) tables t found (eq-eqb t.0 t.0 refl)

pub has_in : (tables : List TableNo) (n : ℕ) → has_table n tables ≡ true → Contains tables (table_of n)
has_in tables n h =
    let at = any_in (λ (x : TableNo). x.0 == n) tables h in
    subst (Contains tables) (same_table at.0 n at.1.1) at.1.0

-- ---- what a change is of

abbrev pub IsOf : TableNo → Change → Type 0
IsOf t (change.Insert table values) = table ≡ t
IsOf t (change.Put table row values) = table ≡ t
IsOf t (change.Delete table row) = table ≡ t
IsOf t (change.Define definition) = ⊥

-- one of the changes is of the table
pub record Changes (changes : List Change) (t : TableNo) : Type 0 where
  pub change : Change
  pub there : Contains changes change
  pub of : IsOf t change

-- ---- rows

committed_of : (table : TableNo) (row : RowNo) (name : RowName) → Contains (if_committed table row) name → table ≡ name.table
committed_of table row name found = by (nat_lt row.0 (2 ^ 63)) found
  where
    by : (b : Bool) → Contains (if b then name_of table row ∷ [] else []) name → table ≡ name.table
    by true at = elim (head_or_tail (name_of table row) [] name at) [
      | inl it ↦ ap (λ (n : RowName). n.table) it
      | inr none ↦ absurd (nothing_in name none)
    ]
    by false at = absurd (nothing_in name at)

row_of : (c : Change) (name : RowName) → Contains (rows_of c) name → IsOf name.table c
row_of (change.Insert table values) name found = absurd (nothing_in name found)
row_of (change.Put table row values) name found = committed_of table row name found
row_of (change.Delete table row) name found = committed_of table row name found
row_of (change.Define definition) name found = absurd (nothing_in name found)

pub row_changed : (changes : List Change) (table row : ℕ) → has_row table row (rows_changed changes) ≡ true → Changes changes (table_of table)
row_changed changes table row h =
    let at = any_in (λ (r : RowName). (r.table.0 == table) && (r.row.0 == row)) (rows_changed changes) h in
    let of = from_flat rows_of changes at.0 at.1.0 in
    let same = same_table at.0.table table (and_parts (at.0.table.0 == table) (at.0.row.0 == row) at.1.1).0 in
    record { change = of.0; there = of.1.0; of = subst (λ (t : TableNo). IsOf t of.0) same (row_of of.0 at.0 of.1.1) }

-- ---- keys

key_over_of : (table : TableNo) (place : ℕ) (old new : Option (List Value)) (columns : Option (List ℕ)) (k : KeyName) → Contains (keys_over table place old new columns) k → table ≡ k.table
key_over_of table place old new None k found = absurd (nothing_in k found)
key_over_of table place old new (Some columns) k found =
    let v = from_map (key_name table place) (keys_between (key_of columns old) (key_of columns new)) k found in
    sym (ap (λ (x : KeyName). x.table) v.2)

key_from_of : (table : TableNo) (old new : Option (List Value)) (place : ℕ) (cs : List Constraint) (k : KeyName) → Contains (keys_from table old new place cs) k → table ≡ k.table
key_from_of table old new place [] k found = absurd (nothing_in k found)
key_from_of table old new place (c ∷ cs) k found = elim (Contains-append_cases (keys_over table place old new (key_columns c.rule)) (keys_from table old new (place + 1) cs) k found) [
  | inl here ↦ key_over_of table place old new (key_columns c.rule) k here
  | inr later ↦ key_from_of table old new (place + 1) cs k later
]

-- a key is of a table that is there
pub record KeyOf (things : Things) (t : TableNo) (k : KeyName) : Type 0 where
  pub table : t ≡ k.table
  pub found : Table
  pub is : table_numbered things t ≡ Some found

key_at_of : (things : Things) (table : TableNo) (old new : Option (List Value)) (k : KeyName) → Contains (keys_at things table old new) k → KeyOf things table k
key_at_of things table old new k found = by (table_numbered things table) refl found
  where
    by : (t : Option Table) → table_numbered things table ≡ t → Contains (option_map_or (λ t. keys_from table old new 0 t.constraints) t []) k → KeyOf things table k
    by None is at = absurd (nothing_in k at)
    by (Some t) is at = record { table = key_from_of table old new 0 t.constraints k at; found = t; is = is }

-- the table of a key's change
pub record ChangesKey (things : Things) (changes : List Change) (t : TableNo) : Type 0 where
  pub changed : Changes changes t
  pub found : Table
  pub is : table_numbered things t ≡ Some found

key_in_change : (things : Things) (before : Maps) (c : Change) (k : KeyName) → Contains (keys_of things before c) k → (t : TableNo) × (IsOf t c × KeyOf things t k)
key_in_change things before (change.Insert table values) k found = (table, (refl, key_at_of things table None (Some values) k found))
key_in_change things before (change.Put table row values) k found = (table, (refl, key_at_of things table (was before (name_of table row)) (Some values) k found))
key_in_change things before (change.Delete table row) k found = (table, (refl, key_at_of things table (was before (name_of table row)) None k found))
key_in_change things before (change.Define definition) k found = absurd (nothing_in k found)

pub key_changed : (things : Things) (before : Maps) (changes : List Change) (table constraint : ℕ) (values : List Value) → has_key table constraint values (keys_changed things before changes) ≡ true → ChangesKey things changes (table_of table)
key_changed things before changes table constraint values h =
    let at = any_in (λ (k : KeyName). (k.table.0 == table) && (k.constraint.0 == constraint) && same_key k.values values) (keys_changed things before changes) h in
    let of = from_flat (keys_of things before) changes at.0 at.1.0 in
    let in_ = key_in_change things before of.0 at.0 of.1.1 in
    let parts = and_parts ((at.0.table.0 == table) && (at.0.constraint.0 == constraint)) (same_key at.0.values values) at.1.1 in
    let named = and_parts (at.0.table.0 == table) (at.0.constraint.0 == constraint) parts.0 in
    let same : in_.0 ≡ table_of table = in_.1.1.table ∙ same_table at.0.table table named.0 in
    record {
      changed = record { change = of.0; there = of.1.0; of = subst (λ (t : TableNo). IsOf t of.0) same in_.1.0 };
      found = in_.1.1.found;
      is = subst (λ (t : TableNo). table_numbered things t ≡ Some in_.1.1.found) same in_.1.1.is;
    }

-- ---- keys of parents

-- a constraint of a table that references another table
pub record Names (things : Things) (t parent : TableNo) : Type 0 where
  pub table : Table
  pub is : table_numbered things t ≡ Some table
  pub constraint : Constraint
  pub there : Contains table.constraints constraint
  pub key : ForeignKey
  pub rule : constraint.rule ≡ rule.ForeignKey key
  pub number : number_of things key.parent ≡ Some parent

numbered_named : (things : Things) (name : List ℕ) (parent : Table) → table_named things name ≡ Some parent → number_of things name ≡ Some parent.number
numbered_named things name parent h = by (number_of things name) refl h
  where
    by : (n : Option TableNo) → number_of things name ≡ n → option_map_or (table_numbered things) n None ≡ Some parent → number_of things name ≡ Some parent.number
    by None is at = absurd cc
    by (Some n) is at = is ∙ ap Some (sym (number_is things n parent at))

module _ (things : Things) (row : List Value) (t : TableNo) (table : Table) (is : table_numbered things t ≡ Some table) (c : Constraint) (there : Contains table.constraints c) (k : KeyName) where
  parent_over : (key : ForeignKey) → c.rule ≡ rule.ForeignKey key → (parent : Table) → table_named things key.parent ≡ Some parent → (place : Option ℕ) → Contains (named_over parent key row place) k → Names things t k.table
  parent_over key ruled parent at None found = absurd (nothing_in k found)
  parent_over key ruled parent at (Some place) found = elim (head_or_tail (key_name parent.number place (map (named_value key row) (columns_at parent place))) [] k found) [
    | inl it ↦ record {
      table = table;
      is = is;
      constraint = c;
      there = there;
      key = key;
      rule = ruled;
      number = numbered_named things key.parent parent at ∙ ap (λ (x : KeyName). Some x.table) it;
    }
    | inr none ↦ absurd (nothing_in k none)
  ]

  parent_in : (key : ForeignKey) → c.rule ≡ rule.ForeignKey key → (parent : Option Table) → table_named things key.parent ≡ parent → Contains (named_in parent key row) k → Names things t k.table
  parent_in key ruled None at found = absurd (nothing_in k found)
  parent_in key ruled (Some parent) at found = parent_over key ruled parent at (key_over parent key.parent_columns) found

  parent_by : (r : Rule) → c.rule ≡ r → Contains (named_by things row r) k → Names things t k.table
  parent_by (rule.ForeignKey key) ruled found = by (has_null (key_in key.columns row)) found
    where
      by : (b : Bool) → Contains (if b then [] else named_in (table_named things key.parent) key row) k → Names things t k.table
      by true at = absurd (nothing_in k at)
      by false at = parent_in key ruled (table_named things key.parent) refl at
  parent_by (rule.NotNull column) ruled found = absurd (nothing_in k found)
  parent_by (rule.PrimaryKey columns) ruled found = absurd (nothing_in k found)
  parent_by (rule.Unique columns) ruled found = absurd (nothing_in k found)
  parent_by (rule.Check condition) ruled found = absurd (nothing_in k found)
  parent_by (rule.Index columns) ruled found = absurd (nothing_in k found)

parent_at : (things : Things) (t : TableNo) (row : List Value) (k : KeyName) → Contains (parents_at things t row) k → Names things t k.table
parent_at things t row k found = by (table_numbered things t) refl found
  where
    by : (o : Option Table) → table_numbered things t ≡ o → Contains (option_map_or (λ t. flat_map (λ c. named_by things row c.rule) t.constraints) o []) k → Names things t k.table
    by None is at = absurd (nothing_in k at)
    by (Some table) is at =
        let c = from_flat (λ (c : Constraint). named_by things row c.rule) table.constraints k at in
        parent_by things row t table is c.0 c.1.0 k c.0.rule refl c.1.1

-- a changed table whose constraint references the other
pub record ChangesChild (things : Things) (changes : List Change) (parent : TableNo) : Type 0 where
  pub child : TableNo
  pub changed : Changes changes child
  pub names : Names things child parent

parent_in_change : (things : Things) (c : Change) (k : KeyName) → Contains (parents_of things c) k → (t : TableNo) × (IsOf t c × Names things t k.table)
parent_in_change things (change.Insert table values) k found = (table, (refl, parent_at things table values k found))
parent_in_change things (change.Put table row values) k found = (table, (refl, parent_at things table values k found))
parent_in_change things (change.Delete table row) k found = absurd (nothing_in k found)
parent_in_change things (change.Define definition) k found = absurd (nothing_in k found)

pub parent_changed : (things : Things) (changes : List Change) (table constraint : ℕ) (values : List Value) → has_key table constraint values (parents_named things changes) ≡ true → ChangesChild things changes (table_of table)
parent_changed things changes table constraint values h =
    let at = any_in (λ (k : KeyName). (k.table.0 == table) && (k.constraint.0 == constraint) && same_key k.values values) (parents_named things changes) h in
    let of = from_flat (parents_of things) changes at.0 at.1.0 in
    let in_ = parent_in_change things of.0 at.0 of.1.1 in
    let parts = and_parts ((at.0.table.0 == table) && (at.0.constraint.0 == constraint)) (same_key at.0.values values) at.1.1 in
    let named = and_parts (at.0.table.0 == table) (at.0.constraint.0 == constraint) parts.0 in
    record {
      child = in_.0;
      changed = record { change = of.0; there = of.1.0; of = in_.1.0 };
      names = subst (λ (t : TableNo). Names things in_.0 t) (same_table at.0.table table named.0) in_.1.1;
    }
