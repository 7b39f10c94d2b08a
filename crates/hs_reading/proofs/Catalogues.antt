-- The constraints of a catalogue's tables have names without line feeds.
use Rattle.std.proofs.Common.{◌≡◌, Bool, true, false, cond, List, [], ◌∷◌, filter, Option, Some, None, refl, ◌∙◌}
use Rattle.std.specs.Prelude.{find}
use Rattle.std.specs.List.{flat_map}
use Rattle.std.specs.Option.{option_map, option_map_or}
use Rattle.std.proofs.lemmas.Bool.{and_from, and_parts}
use Rattle.std.proofs.lemmas.List.Folds.{list_all-append}
use Rattle.hs_base.specs.declared.numbers.TableNo.{TableNo}
use Rattle.hs_outlines.specs.Named.{is_primary_key, primary_name}
use Rattle.hs_plainsql.specs.Naming.{are_named, are_single, is_named, is_single}
use Rattle.hs_plan.specs.declared.definition.Column.{Column}
use Rattle.hs_plan.specs.declared.definition.Constraint.{Constraint}
use Rattle.hs_reading.proofs.Lists.{IsSingle}
use Rattle.hs_reading.proofs.SingleParts.{OnPart}
use Rattle.hs_schema.specs.Catalogue.{Text, Things, columns_in, constraints_in, is_of, is_table, number_of, own, table_named, table_numbered, table_with}
use Rattle.hs_schema.specs.declared.table.Table.{Table}
use Rattle.hs_schema.specs.declared.thing.Part.{Part}
use Rattle.hs_schema.specs.declared.thing.Part.TheVariants as part
use Rattle.hs_schema.specs.declared.thing.Thing.{Thing}

abbrev HasNames : Table → Type 0
HasNames t = are_single t.constraints ≡ true

kept_by : (b : Bool) (t : Thing) (ts : Things) → is_named t ≡ true → are_named ts ≡ true → are_named (cond b (t ∷ ts) ts) ≡ true
kept_by true t ts h k = and_from (is_named t) (are_named ts) h k
kept_by false t ts h k = k

kept_named : (test : Thing → Bool) (things : Things) → are_named things ≡ true → are_named (filter test things) ≡ true
kept_named test [] h = refl
kept_named test (t ∷ ts) h = let parts = and_parts (is_named t) (are_named ts) h in kept_by (test t) t (filter test ts) parts.0 (kept_named test ts parts.1)

all_single : (things : Things) → are_named things ≡ true → are_single (flat_map (λ x. constraints_in x.part) things) ≡ true
all_single [] h = refl
all_single (t ∷ ts) h =
    let parts = and_parts (is_named t) (are_named ts) h in
    list_all-append is_single (constraints_in t.part) (flat_map (λ x. constraints_in x.part) ts)
    ∙ and_from (are_single (constraints_in t.part)) (are_single (flat_map (λ x. constraints_in x.part) ts)) parts.0 (all_single ts parts.1)

with_single : (p : Part) (table : TableNo) (columns : List Column) (constraints : List Constraint) → are_single constraints ≡ true → OnPart HasNames (table_with p table columns constraints)
with_single (part.Table name storage created) table columns constraints h = h
with_single (part.Column column) table columns constraints h = tt
with_single (part.Constraint constraint) table columns constraints h = tt

found_single : (o : Option Thing) (table : TableNo) (columns : List Column) (constraints : List Constraint) → are_single constraints ≡ true → OnPart HasNames (option_map_or (λ t. table_with t.part table columns constraints) o None)
found_single None table columns constraints h = tt
found_single (Some t) table columns constraints h = with_single t.part table columns constraints h

numbered_single : (things : Things) (table : TableNo) → are_named things ≡ true → OnPart HasNames (table_numbered things table)
numbered_single things table h =
    let its : Things = own things table in
    found_single (find (λ t. is_table t.part) its) table (flat_map (λ x. columns_in x.part) its) (flat_map (λ x. constraints_in x.part) its) (all_single its (kept_named (is_of table) things h))

number_single : (things : Things) (o : Option TableNo) → are_named things ≡ true → OnPart HasNames (option_map_or (table_numbered things) o None)
number_single things None h = tt
number_single things (Some table) h = numbered_single things table h

pub table_single : (things : Things) (name : Text) → are_named things ≡ true → OnPart HasNames (table_named things name)
table_single things name h = number_single things (number_of things name) h

-- ---- a table's primary key

key_by : (b : Bool) (c : Constraint) (rest : Option Constraint) → is_single c ≡ true → OnPart IsSingle (option_map (λ (x : Constraint). x.name) rest) → OnPart IsSingle (option_map (λ (x : Constraint). x.name) (cond b (Some c) rest))
key_by true c rest h k = h
key_by false c rest h k = k

pub primary_single : (constraints : List Constraint) → are_single constraints ≡ true → OnPart IsSingle (primary_name constraints)
primary_single [] h = tt
primary_single (c ∷ cs) h = let parts = and_parts (is_single c) (are_single cs) h in key_by (is_primary_key c.rule) c (find (λ x. is_primary_key x.rule) cs) parts.0 (primary_single cs parts.1)
