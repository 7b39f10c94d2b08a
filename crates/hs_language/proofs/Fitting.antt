-- The rows of each table fit its columns behind a definition, where they did before.
use Rattle.std.proofs.Common.{◌≡◌, ℕ, ◌≤◌, Bool, true, false, ◌&&◌, nat_eq, T, length, List, [], ◌∷◌, ◌++◌, map, Option, Some, None, is_some, refl, sym, ap, ap₂, ◌∙◌, subst, if◌then◌else◌, nat_cmp, arith}
use Rattle.std.proofs.lemmas.Bool.{and_from, and_parts}
use Rattle.std.proofs.lemmas.List.{append-nil, map-append}
use Rattle.std.specs.Cmp.{nat_cmp_total}
use Rattle.std.specs.FinMap.{empty, entries, entries_sorted, get-entries, get-from_entries, is_sorted, len-empty, len-entries, nat_cmp-IsAntisymmetric}
use Rattle.std.specs.FinMap.Entries.{below_all, same_entries}
use Rattle.std.specs.List.{All, list_all}
use Rattle.std.specs.Option.{option_map, option_map_or, unwrap_or}
use Rattle.std.specs.Ordering.{is_lt}
use Rattle.hs_base.specs.declared.numbers.TableNo.{TableNo}
use Rattle.hs_plan.specs.declared.definition.Column.{Column}
use Rattle.hs_plan.specs.declared.definition.Constraint.{Constraint}
use Rattle.hs_plan.specs.declared.definition.Definition.{Definition}
use Rattle.hs_plan.specs.declared.definition.Definition.TheVariants as d
use Rattle.hs_plan.specs.declared.definition.Rule.TheVariants as rule
use Rattle.hs_values.specs.SqlType.{fits_of, row_fits}
use Rattle.hs_values.specs.declared.sql_type.SqlType.{SqlType}
use Rattle.hs_values.specs.declared.sql_type.SqlType.TheVariants as t
use Rattle.hs_values.specs.declared.value.Value.{Value}
use Rattle.hs_values.specs.declared.value.Value.TheVariants as v
use Rattle.hs_index.specs.Table.{Rows}
use Rattle.hs_changes.specs.Settings.{Maps}
use Rattle.hs_rowtext.specs.Rows.{types_of}
use Rattle.hs_schema.specs.Catalogue.{AreNew, IsNext, Text, Things, after, number_of, owner_of, parts_made, table_numbered, with_more, without_constraint}
use Rattle.hs_schema.specs.Kept.{grown, without}
use Rattle.hs_schema.specs.Whole.{IsWhole}
use Rattle.hs_schema.specs.declared.table.Table.{Table}
use Rattle.hs_schema.proofs.After.{after_alter, after_create, after_drop, number_of_name}
use Rattle.hs_schema.proofs.Made.{new_one}
use Rattle.hs_schema.proofs.Things.{dropped, same_number}
use Rattle.hs_turns.specs.Definitions.{default_value, lengthened, rows_after, with_rows}
use Rattle.hs_language.specs.Sound.{has_fitting_default, is_owned}
use Rattle.hs_language.specs.Validity.{rows_fit, types_in}
use Rattle.hs_language.specs.Proper.{IsProper}
use Rattle.hs_language.proofs.Lists.{all_mapped, all_weaker}
use Rattle.hs_language.proofs.Tables.{one_of, some_there, turned, OneOf}

abbrev Entries : Type 0
Entries = List (ℕ × List Value)

-- ---- rows

no_entries : {X : Type 0} (es : List X) → length es ≡ 0 → es ≡ []
no_entries [] h = refl
no_entries (e ∷ es) h = absurd (omega (arith, h))

-- a table without rows fits any columns
none_fit : (types : List SqlType) → rows_fit types empty ≡ true
none_fit types =
    let none : Rows = empty in
    ap (list_all (λ (e : ℕ × List Value). row_fits types e.1)) (no_entries (entries none) (sym (len-entries none) ∙ len-empty nat_cmp (List Value)))

longer : Value → Entries → Entries
longer value es = map (λ e. (e.0, e.1 ++ value ∷ [])) es

below_longer : (value : Value) (x : ℕ) (es : Entries) → below_all nat_cmp x (longer value es) ≡ below_all nat_cmp x es
unfolding longer
below_longer value x [] = refl
below_longer value x (e ∷ es) = ap (λ b. is_lt (nat_cmp x e.0) && b) (below_longer value x es)

sorted_longer : (value : Value) (es : Entries) → is_sorted nat_cmp (longer value es) ≡ is_sorted nat_cmp es
unfolding longer
sorted_longer value [] = refl
sorted_longer value (e ∷ es) = ap₂ (λ a b. a && b) (below_longer value e.0 es) (sorted_longer value es)

entries_longer : (value : Value) (rows : Rows) → entries (lengthened value rows) ≡ longer value (entries rows)
unfolding longer
entries_longer value rows =
    same_entries nat_cmp nat_cmp_total nat_cmp-IsAntisymmetric (entries (lengthened value rows)) (longer value (entries rows)) (entries_sorted (lengthened value rows))
    (subst T (sym (sorted_longer value (entries rows))) (entries_sorted rows))
    (λ q. sym (get-entries (lengthened value rows) q) ∙ get-from_entries nat_cmp_total (longer value (entries rows)) q)

row_longer : (type : SqlType) (value : Value) → fits_of type value ≡ true → (types : List SqlType) (row : List Value) → row_fits types row ≡ true → row_fits (types ++ type ∷ []) (row ++ value ∷ []) ≡ true
row_longer type value fits [] [] h = and_from (fits_of type value) true fits refl
row_longer type value fits [] (x ∷ row) h = absurd (let no : false ≡ true = h in cc)
row_longer type value fits (a ∷ types) [] h = absurd (let no : false ≡ true = h in cc)
row_longer type value fits (a ∷ types) (x ∷ row) h =
    let parts = and_parts (fits_of a x) (row_fits types row) h in
    and_from (fits_of a x) (row_fits (types ++ type ∷ []) (row ++ value ∷ [])) parts.0 (row_longer type value fits types row parts.1)

-- rows fit one column more where each gets a value that fits it
rows_longer : (type : SqlType) (value : Value) (types : List SqlType) (rows : Rows) → fits_of type value ≡ true → rows_fit types rows ≡ true → rows_fit (types ++ type ∷ []) (lengthened value rows) ≡ true
unfolding longer
rows_longer type value types rows fits h =
    ap (list_all (λ (e : ℕ × List Value). row_fits (types ++ type ∷ []) e.1)) (entries_longer value rows)
    ∙ all_mapped (λ (e : ℕ × List Value). row_fits (types ++ type ∷ []) e.1) (λ (e : ℕ × List Value). (e.0, e.1 ++ value ∷ [])) (entries rows)
    (all_weaker (λ (e : ℕ × List Value). row_fits types e.1) (λ (e : ℕ × List Value). row_fits (types ++ type ∷ []) (e.1 ++ value ∷ [])) (λ e so. row_longer type value fits types e.1 so) (entries rows) h)

null_fits : (type : SqlType) → fits_of type v.Null ≡ true
null_fits t.Small = refl
null_fits t.Integer = refl
null_fits t.Big = refl
null_fits (t.Decimal precision scale) = refl
null_fits (t.Varchar most) = refl
null_fits t.Bool = refl
null_fits t.Date = refl
null_fits t.Stamp = refl

default_fits : (column : Column) → has_fitting_default column ≡ true → fits_of column.data_type (default_value column) ≡ true
default_fits column h = by column.default h
  where
    by : (o : Option Value) → option_map_or (fits_of column.data_type) o true ≡ true → fits_of column.data_type (unwrap_or o v.Null) ≡ true
    by None h = null_fits column.data_type
    by (Some value) h = h

-- ---- tables

-- the types of the columns of a table, none where it isn't there
abbrev pub types_if : Option Table → List SqlType
types_if o = types_of (option_map_or (λ (x : Table). x.columns) o [])

-- the rows of each table that is there fit its columns
abbrev pub Fit : Things → Maps → Type 0
Fit things maps = (n : TableNo) → is_some (table_numbered things n) ≡ true → rows_fit (types_if (table_numbered things n)) (maps n.0) ≡ true

pub fit_from : (things : Things) (maps : Maps) → list_all (λ t. rows_fit (types_in things t.table.0) (maps t.table.0)) things ≡ true → Fit things maps
fit_from things maps h n there =
    let one : OneOf (λ t. rows_fit (types_in things t.table.0) (maps t.table.0)) n = one_of (λ t. rows_fit (types_in things t.table.0) (maps t.table.0)) things n h there in
    ap (λ k. rows_fit (types_in things k) (maps k)) one.number ∙ one.passes

pub fit_test : (things : Things) (maps : Maps) → list_all (is_owned things) things ≡ true → Fit things maps → list_all (λ t. rows_fit (types_in things t.table.0) (maps t.table.0)) things ≡ true
fit_test things maps owned fit = all_weaker (is_owned things) (λ t. rows_fit (types_in things t.table.0) (maps t.table.0)) (λ t is. fit t.table is) things owned

-- ---- definitions

-- tables and rows that are as before, but for those of one number
module _ (things behind : Things) (maps : Maps) (n : ℕ) (o : Option Table) (rows : Rows) (fit : Fit things maps)
    (tables : (m : TableNo) → table_numbered behind m ≡ (if nat_eq n m.0 then o else table_numbered things m)) (its : is_some o ≡ true → rows_fit (types_if o) rows ≡ true) where
  one_changed : Fit behind (with_rows n rows maps)
  one_changed m there =
      ap (λ x. rows_fit (types_if x) (with_rows n rows maps m.0)) (tables m)
      ∙ ap (λ b. rows_fit (types_if (if nat_eq n m.0 then o else table_numbered things m)) (if b then rows else maps m.0)) (turned m.0 n)
      ∙ by (nat_eq n m.0) (sym (ap is_some (tables m)) ∙ there)
    where
      by : (b : Bool) → is_some (if b then o else table_numbered things m) ≡ true → rows_fit (types_if (if b then o else table_numbered things m)) (if b then rows else maps m.0) ≡ true
      by true h = its h
      by false h = fit m h

-- tables with the same columns as before
module _ (things behind : Things) (maps : Maps) (fit : Fit things maps) (same : (m : TableNo) → types_if (table_numbered behind m) ≡ types_if (table_numbered things m)) (still : (m : TableNo) → is_some (table_numbered behind m) ≡ true → is_some (table_numbered things m) ≡ true) where
  none_changed : Fit behind maps
  none_changed m there = ap (λ types. rows_fit types (maps m.0)) (same m) ∙ fit m (still m there)

module _ (things : Things) (number : ℕ) (maps : Maps) (whole : IsWhole things) (fit : Fit things maps) where
  column_added : (table : Text) (column : Column) (constraints : List Constraint) → IsNext things (d.AddColumn table column constraints) number → IsProper things (d.AddColumn table column constraints)
      → (n : TableNo) → number_of things table ≡ Some n → Fit (after things (d.AddColumn table column constraints) number) (rows_after things (d.AddColumn table column constraints) number maps)
  column_added table column constraints next proper n at =
      let found = number_of_name things table n whole at in
      let defaults = and_parts (has_fitting_default column) true proper.defaults in
      let before : rows_fit (types_of found.0.columns) (maps n.0) ≡ true = ap (λ o. rows_fit (types_if o) (maps n.0)) (sym found.1) ∙ fit n (ap is_some found.1) in
      let longer_fit : rows_fit (types_of (found.0.columns ++ column ∷ [])) (lengthened (default_value column) (maps n.0)) ≡ true =
      ap (λ types. rows_fit types (lengthened (default_value column) (maps n.0))) (map-append (λ (c : Column). c.data_type) found.0.columns (column ∷ []))
      ∙ rows_longer column.data_type (default_value column) (types_of found.0.columns) (maps n.0) (default_fits column defaults.0) before in
      subst (Fit (after things (d.AddColumn table column constraints) number)) (sym (ap (λ o. option_map_or (λ k. with_rows k.0 (lengthened (default_value column) (maps k.0)) maps) o maps) at))
      (one_changed things (after things (d.AddColumn table column constraints) number) maps n.0 (Some (grown found.0 (Some column) constraints)) (lengthened (default_value column) (maps n.0)) fit
      (after_alter things number whole.after_table table n found.0 (Some column) constraints at found.1 proper.bound.1 next) (λ shown. longer_fit))

  constraints_more : (table : Text) (constraints : List Constraint) → AreNew things constraints → All (λ t. t.number ≤ number) things
      → (n : TableNo) → number_of things table ≡ Some n → Fit (with_more things table (parts_made number None constraints)) maps
  constraints_more table constraints free next n at =
      let found = number_of_name things table n whole at in
      let tables = after_alter things number whole.after_table table n found.0 None constraints at found.1 free next in
      none_changed things (with_more things table (parts_made number None constraints)) maps fit
      (λ m. ap types_if (tables m) ∙ same m found.0 found.1 (nat_eq n.0 m.0) refl) (λ m there. still m found.0 found.1 (nat_eq n.0 m.0) refl (sym (ap is_some (tables m)) ∙ there))
    where
      here : (m : TableNo) (x : Table) → table_numbered things n ≡ Some x → nat_eq n.0 m.0 ≡ true → table_numbered things m ≡ Some x
      here m x there e = ap (table_numbered things) (sym (same_number n m e)) ∙ there

      same : (m : TableNo) (x : Table) → table_numbered things n ≡ Some x → (b : Bool) → nat_eq n.0 m.0 ≡ b → types_if (if b then Some (grown x None constraints) else table_numbered things m) ≡ types_if (table_numbered things m)
      same m x there true e = ap types_of (append-nil x.columns) ∙ sym (ap types_if (here m x there e))
      same m x there false e = refl

      still : (m : TableNo) (x : Table) → table_numbered things n ≡ Some x → (b : Bool) → nat_eq n.0 m.0 ≡ b → is_some (if b then Some (grown x None constraints) else table_numbered things m) ≡ true → is_some (table_numbered things m) ≡ true
      still m x there true e h = ap is_some (here m x there e)
      still m x there false e h = h

  constraint_less : (name : Text) (o : Option TableNo) → Fit (option_map_or (without_constraint things name) o things) maps
  constraint_less name None = fit
  constraint_less name (Some n) =
      none_changed things (without_constraint things name n) maps fit
      (λ m. ap types_if (sym (dropped things n m name)) ∙ same (nat_eq n.0 m.0) (table_numbered things m)) (λ m there. still (nat_eq n.0 m.0) (table_numbered things m) (ap is_some (dropped things n m name) ∙ there))
    where
      same : (b : Bool) (o : Option Table) → types_if (if b then option_map (without name) o else o) ≡ types_if o
      same true None = refl
      same true (Some x) = refl
      same false o = refl

      still : (b : Bool) (o : Option Table) → is_some (if b then option_map (without name) o else o) ≡ true → is_some o ≡ true
      still true None h = h
      still true (Some x) h = refl
      still false o h = h

  table_gone : (name : Text) → (n : TableNo) → number_of things name ≡ Some n → Fit (after things (d.DropTable name) number) (rows_after things (d.DropTable name) number maps)
  table_gone name n at =
      subst (Fit (after things (d.DropTable name) number)) (sym (ap (λ o. option_map_or (λ k. with_rows k.0 empty maps) o maps) at))
      (one_changed things (after things (d.DropTable name) number) maps n.0 None empty fit (λ m. after_drop things name n m number at) (λ there. none_fit (types_if None)))

  pub fit_after : (definition : Definition) → IsNext things definition number → IsProper things definition → Fit (after things definition number) (rows_after things definition number maps)
  fit_after (d.CreateTable storage name columns constraints) next proper =
      let created : Table = record { name = name; number = record { 0 = number }; storage = storage; columns = columns; constraints = constraints } in
      one_changed things (after things (d.CreateTable storage name columns constraints) number) maps number (Some created) empty fit
      (after_create things number whole.after_table storage name columns constraints proper.bound.0 proper.bound.1 next) (λ there. none_fit (types_if (Some created)))
  fit_after (d.DropTable name) next proper =
      some_there (Fit (after things (d.DropTable name) number) (rows_after things (d.DropTable name) number maps)) (number_of things name) proper.bound (λ n at. table_gone name n at)
  fit_after (d.AddColumn table column constraints) next proper =
      some_there (Fit (after things (d.AddColumn table column constraints) number) (rows_after things (d.AddColumn table column constraints) number maps)) (number_of things table) proper.bound.0
      (λ n at. column_added table column constraints next proper n at)
  fit_after (d.AddConstraint table constraint) next proper =
      some_there (Fit (after things (d.AddConstraint table constraint) number) maps) (number_of things table) proper.bound.0 (λ n at. constraints_more table (constraint ∷ []) (new_one things constraint proper.bound.1) next n at)
  fit_after (d.DropConstraint table name) next proper = constraint_less name (number_of things table)
  fit_after (d.CreateIndex table name columns) next proper =
      some_there (Fit (after things (d.CreateIndex table name columns) number) maps) (number_of things table) proper.bound.0
      (λ n at. constraints_more table (record { name = name; rule = rule.Index columns } ∷ []) (new_one things (record { name = name; rule = rule.Index columns }) proper.bound.1) next n at)
  fit_after (d.DropIndex name) next proper = constraint_less name (owner_of things name)
  fit_after (d.SetControl control) next proper = fit
  fit_after (d.SetDefaultLevel serializable) next proper = fit
