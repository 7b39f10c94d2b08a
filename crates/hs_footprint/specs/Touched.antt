-- The rows and keys that changes touch.
use Rattle.std.specs.Prelude.{ℕ, ◌+◌, ◌^◌, Bool, false, ◌&&◌, nat_eq, nat_lt, List, [], ◌∷◌, ◌++◌, map, position, slice_get, Option, None, Some, if◌then◌else◌}
use Rattle.std.specs.List.{flat_map, list_all}
use Rattle.std.specs.Option.{option_map_or}
use Rattle.hs_base.specs.declared.numbers.ConstraintNo.{ConstraintNo}
use Rattle.hs_base.specs.declared.numbers.RowName.{RowName}
use Rattle.hs_base.specs.declared.numbers.RowNo.{RowNo}
use Rattle.hs_base.specs.declared.numbers.TableNo.{TableNo}
use Rattle.hs_plan.specs.declared.change.Change.{Change}
use Rattle.hs_plan.specs.declared.change.Change.TheVariants as change
use Rattle.hs_plan.specs.declared.definition.Constraint.{Constraint}
use Rattle.hs_plan.specs.declared.definition.ForeignKey.{ForeignKey}
use Rattle.hs_plan.specs.declared.definition.Rule.{Rule}
use Rattle.hs_plan.specs.declared.definition.Rule.TheVariants as rule
use Rattle.hs_values.specs.declared.value.Value.{Value}
use Rattle.hs_values.specs.declared.value.Value.TheVariants as v
use Rattle.hs_index.specs.Keys.{has_null, key_in, same_key, value_at}
use Rattle.hs_schema.specs.Catalogue.{Things, table_named, table_numbered}
use Rattle.hs_schema.specs.declared.table.Table.{Table}
use Rattle.hs_changes.specs.Settings.{Maps}
use Rattle.hs_sentences.specs.Asking.{is_one_of}
use Rattle.hs_actions.specs.Work.{was}
use Rattle.hs_claims.specs.declared.key_names.KeyName.{KeyName}

-- ---- committed rows

abbrev pub name_of : TableNo → RowNo → RowName
name_of table row = record { table = table; row = row }

-- a row that was committed has a number below 2^63
abbrev pub if_committed : TableNo → RowNo → List RowName
if_committed table row = if nat_lt row.0 (2 ^ 63) then name_of table row ∷ [] else []

abbrev pub rows_of : Change → List RowName
rows_of (change.Insert table values) = []
rows_of (change.Put table row values) = if_committed table row
rows_of (change.Delete table row) = if_committed table row
rows_of (change.Define definition) = []

-- the committed rows that changes put or delete
abbrev pub rows_changed : List Change → List RowName
rows_changed = flat_map rows_of

-- ---- keys

-- the columns of a primary key or of a UNIQUE, none of another rule
abbrev pub key_columns : Rule → Option (List ℕ)
key_columns (rule.PrimaryKey columns) = Some columns
key_columns (rule.Unique columns) = Some columns
key_columns (rule.NotNull column) = None
key_columns (rule.Check condition) = None
key_columns (rule.ForeignKey key) = None
key_columns (rule.Index columns) = None

abbrev pub key_name : TableNo → ℕ → List Value → KeyName
key_name table place values = record { table = table; constraint = record { 0 = place }; values = values }

-- the key that a row has in these columns: none with a NULL, and none without a row
abbrev pub key_with : List Value → Option (List Value)
key_with key = if has_null key then None else Some key

abbrev pub key_of : List ℕ → Option (List Value) → Option (List Value)
key_of columns None = None
key_of columns (Some row) = key_with (key_in columns row)

-- a key comes or goes, or it is another one than before
abbrev pub keys_between : Option (List Value) → Option (List Value) → List (List Value)
keys_between None None = []
keys_between None (Some new) = new ∷ []
keys_between (Some old) None = old ∷ []
keys_between (Some old) (Some new) = if same_key old new then [] else old ∷ new ∷ []

abbrev pub keys_over : TableNo → ℕ → Option (List Value) → Option (List Value) → Option (List ℕ) → List KeyName
keys_over table place old new None = []
keys_over table place old new (Some columns) = map (key_name table place) (keys_between (key_of columns old) (key_of columns new))

-- those of a table's constraints, of which the first has this place among them
abbrev pub keys_from : TableNo → Option (List Value) → Option (List Value) → ℕ → List Constraint → List KeyName
keys_from table old new place [] = []
keys_from table old new place (c ∷ cs) = keys_over table place old new (key_columns c.rule) ++ keys_from table old new (place + 1) cs

-- the unique keys of a table that a row puts or removes, which was the first and is the second
abbrev pub keys_at : Things → TableNo → Option (List Value) → Option (List Value) → List KeyName
keys_at things table old new = option_map_or (λ t. keys_from table old new 0 t.constraints) (table_numbered things table) []

abbrev pub keys_of : Things → Maps → Change → List KeyName
keys_of things before (change.Insert table values) = keys_at things table None (Some values)
keys_of things before (change.Put table row values) = keys_at things table (was before (name_of table row)) (Some values)
keys_of things before (change.Delete table row) = keys_at things table (was before (name_of table row)) None
keys_of things before (change.Define definition) = []

-- the unique keys that changes put or remove
abbrev pub keys_changed : Things → Maps → List Change → List KeyName
keys_changed things before = flat_map (keys_of things before)

-- ---- keys of parents

-- the one has all of the other
abbrev pub has_all : List ℕ → List ℕ → Bool
has_all columns others = list_all (is_one_of columns) others

abbrev pub are_same : Option (List ℕ) → List ℕ → Bool
are_same None others = false
are_same (Some columns) others = has_all columns others && has_all others columns

-- the first key of a table over these columns, in any order: its place among the table's constraints
abbrev pub key_over : Table → List ℕ → Option ℕ
key_over table columns = position (λ c. are_same (key_columns c.rule) columns) table.constraints

abbrev pub columns_or_none : Option Constraint → List ℕ
columns_or_none None = []
columns_or_none (Some c) = option_map_or (λ columns. columns) (key_columns c.rule) []

abbrev pub columns_at : Table → ℕ → List ℕ
columns_at table place = columns_or_none (slice_get table.constraints place)

-- the column of the child that is paired with one of the parent
abbrev pub paired : ForeignKey → ℕ → Option ℕ
paired key column = option_map_or (slice_get key.columns) (position (nat_eq column) key.parent_columns) None

-- what a child row names in a column of the parent
unfoldable pub named_value : ForeignKey → List Value → ℕ → Value
named_value key row column = option_map_or (value_at row) (paired key column) v.Null

-- the key of the parent that a row names, in the order of the key's own columns
abbrev pub named_over : Table → ForeignKey → List Value → Option ℕ → List KeyName
named_over parent key row None = []
named_over parent key row (Some place) = key_name parent.number place (map (named_value key row) (columns_at parent place)) ∷ []

abbrev pub named_in : Option Table → ForeignKey → List Value → List KeyName
named_in None key row = []
named_in (Some parent) key row = named_over parent key row (key_over parent key.parent_columns)

-- a foreign key with a NULL names none
abbrev pub named_by : Things → List Value → Rule → List KeyName
named_by things row (rule.ForeignKey key) = if has_null (key_in key.columns row) then [] else named_in (table_named things key.parent) key row
named_by things row (rule.NotNull column) = []
named_by things row (rule.PrimaryKey columns) = []
named_by things row (rule.Unique columns) = []
named_by things row (rule.Check condition) = []
named_by things row (rule.Index columns) = []

-- the parent keys that a row of a table names
abbrev pub parents_at : Things → TableNo → List Value → List KeyName
parents_at things table row = option_map_or (λ t. flat_map (λ c. named_by things row c.rule) t.constraints) (table_numbered things table) []

abbrev pub parents_of : Things → Change → List KeyName
parents_of things (change.Insert table values) = parents_at things table values
parents_of things (change.Put table row values) = parents_at things table values
parents_of things (change.Delete table row) = []
parents_of things (change.Define definition) = []

-- the parent keys that the rows name which changes put
abbrev pub parents_named : Things → List Change → List KeyName
parents_named things = flat_map (parents_of things)
