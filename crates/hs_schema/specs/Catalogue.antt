-- A catalogue is the list of its things in the order of creation.
use Rattle.std.specs.Prelude.{◌≡◌, ℕ, ◌<◌, ◌≤◌, Bool, true, false, nat_eq, not, ◌&&◌, if◌then◌else◌, List, [], ◌∷◌, ◌++◌, map, filter, find, is_some, Option, None, Some}
use Rattle.std.specs.List.{flat_map, position_from, All, IsDistinct}
use Rattle.std.specs.Map.{lookup}
use Rattle.std.specs.Option.{option_map, option_map_or}
use Rattle.std.specs.Str.{bytes_eq}
use Rattle.hs_ast.specs.declared.definition.Storage.{Storage}
use Rattle.hs_base.specs.declared.numbers.TableNo.{TableNo}
use Rattle.hs_plan.specs.declared.definition.Column.{Column}
use Rattle.hs_plan.specs.declared.definition.Constraint.{Constraint}
use Rattle.hs_plan.specs.declared.definition.Definition.{Definition}
use Rattle.hs_plan.specs.declared.definition.Definition.TheVariants as d
use Rattle.hs_plan.specs.declared.definition.ForeignKey.{ForeignKey}
use Rattle.hs_plan.specs.declared.definition.Rule.{Rule}
use Rattle.hs_plan.specs.declared.definition.Rule.TheVariants as rule
use Rattle.hs_schema.specs.declared.table.Child.{Child}
use Rattle.hs_schema.specs.declared.table.Place.{Place}
use Rattle.hs_schema.specs.declared.table.Table.{Table}
use Rattle.hs_schema.specs.declared.thing.Part.{Part}
use Rattle.hs_schema.specs.declared.thing.Part.TheVariants as part
use Rattle.hs_schema.specs.declared.thing.Thing.{Thing}

abbrev pub Things : Type 0
Things = List Thing

abbrev pub Text : Type 0
Text = List ℕ

-- ---- one thing

abbrev pub columns_in : Part → List Column
columns_in (part.Table name storage columns) = columns
columns_in (part.Column column) = column ∷ []
columns_in (part.Constraint constraint) = []

abbrev pub constraints_in : Part → List Constraint
constraints_in (part.Table name storage columns) = []
constraints_in (part.Column column) = []
constraints_in (part.Constraint constraint) = constraint ∷ []

abbrev pub is_table : Part → Bool
is_table (part.Table name storage columns) = true
is_table (part.Column column) = false
is_table (part.Constraint constraint) = false

abbrev pub is_constraint : Text → Part → Bool
is_constraint given (part.Table name storage columns) = false
is_constraint given (part.Column column) = false
is_constraint given (part.Constraint constraint) = bytes_eq given constraint.name

-- it is the table of this number, or belongs to it
abbrev pub is_of : TableNo → Thing → Bool
is_of table thing = nat_eq table.0 thing.table.0

-- ---- tables

-- the tables' names, each with its number
abbrev pub named_in : TableNo → Part → List (Text × TableNo)
named_in table (part.Table name storage columns) = (name, table) ∷ []
named_in table (part.Column column) = []
named_in table (part.Constraint constraint) = []

abbrev pub named : Things → List (Text × TableNo)
named = flat_map (λ t. named_in t.table t.part)

abbrev pub number_of : Things → Text → Option TableNo
number_of things name = lookup (bytes_eq name) (named things)

-- the table and what belongs to it
abbrev pub own : Things → TableNo → Things
own things table = filter (is_of table) things

-- a table's name and storage, with all its columns and constraints
abbrev pub table_with : Part → TableNo → List Column → List Constraint → Option Table
table_with (part.Table name storage created) table columns constraints = Some (record { name = name; number = table; storage = storage; columns = columns; constraints = constraints })
table_with (part.Column column) table columns constraints = None
table_with (part.Constraint constraint) table columns constraints = None

abbrev pub table_in : TableNo → Things → Option Table
table_in table things =
    option_map_or (λ t. table_with t.part table (flat_map (λ x. columns_in x.part) things) (flat_map (λ x. constraints_in x.part) things)) (find (λ t. is_table t.part) things) None

abbrev pub table_numbered : Things → TableNo → Option Table
table_numbered things table = table_in table (own things table)

abbrev pub table_named : Things → Text → Option Table
table_named things name = option_map_or (table_numbered things) (number_of things name) None

-- ---- constraints and indexes

-- their names, each with its table
abbrev pub owned_in : TableNo → Part → List (Text × TableNo)
owned_in table (part.Table name storage columns) = []
owned_in table (part.Column column) = []
owned_in table (part.Constraint constraint) = (constraint.name, table) ∷ []

abbrev pub owned : Things → List (Text × TableNo)
owned = flat_map (λ t. owned_in t.table t.part)

abbrev pub owner_of : Things → Text → Option TableNo
owner_of things name = lookup (bytes_eq name) (owned things)

-- the place of this name among the constraints and indexes of all tables
abbrev pub order_of : Things → Text → Option ℕ
order_of things name = position_from (bytes_eq name) 0 (map (λ e. e.0) (owned things))

-- a table, and the place of this name among its constraints and indexes
abbrev pub place_in : Text → Table → Option Place
place_in name table = option_map (λ at. record { table = table.number; constraint = record { 0 = at } }) (position_from (λ c. bytes_eq name c.name) 0 table.constraints)

abbrev pub place_of : Things → Text → Option Place
place_of things name = option_map_or (λ table. option_map_or (place_in name) (table_numbered things table) None) (owner_of things name) None

-- ---- foreign keys

-- a table's foreign key, as its parent sees it
abbrev pub child_of : TableNo → Text → ForeignKey → Child
child_of table name key = record { table = table; constraint = name; on_delete = key.on_delete; on_update = key.on_update }

abbrev pub child_by : TableNo → Text → Rule → Text → List Child
child_by table name (rule.ForeignKey key) parent = if bytes_eq key.parent parent then child_of table name key ∷ [] else []
child_by table name (rule.NotNull column) parent = []
child_by table name (rule.PrimaryKey columns) parent = []
child_by table name (rule.Unique columns) parent = []
child_by table name (rule.Check condition) parent = []
child_by table name (rule.Index columns) parent = []

abbrev pub children_in : Text → TableNo → Part → List Child
children_in parent table (part.Table name storage columns) = []
children_in parent table (part.Column column) = []
children_in parent table (part.Constraint constraint) = child_by table constraint.name constraint.rule parent

-- the foreign keys that reference the table of this name
abbrev pub children_of : Things → Text → List Child
children_of things parent = flat_map (λ t. children_in parent t.table t.part) things

-- ---- definitions

abbrev pub made : ℕ → TableNo → Part → Thing
made number table what = record { number = number; table = table; part = what }

abbrev pub constraints_made : ℕ → TableNo → List Constraint → Things
constraints_made number table constraints = map (λ c. made number table (part.Constraint c)) constraints

-- a table with the columns of its CREATE, and its constraints
abbrev pub table_made : ℕ → Storage → Text → List Column → List Constraint → Things
table_made number storage name columns constraints =
    let table : TableNo = record { 0 = number } in
    made number table (part.Table name storage columns) ∷ constraints_made number table constraints

abbrev pub column_made : ℕ → TableNo → Option Column → Things
column_made number table None = []
column_made number table (Some column) = made number table (part.Column column) ∷ []

-- a column or none that is added to a table, and constraints
abbrev pub parts_made : ℕ → Option Column → List Constraint → TableNo → Things
parts_made number column constraints table = column_made number table column ++ constraints_made number table constraints

-- behind the list stand more things of the table of this name
abbrev pub with_more : Things → Text → (TableNo → Things) → Things
with_more things table more = option_map_or (λ t. things ++ more t) (number_of things table) things

abbrev pub without_table : Things → TableNo → Things
without_table things table = filter (λ t. not (is_of table t)) things

abbrev pub without_constraint : Things → Text → TableNo → Things
without_constraint things name table = filter (λ t. not (is_of table t && is_constraint name t.part)) things

-- the catalogue after a definition with this change number
abbrev pub after : Things → Definition → ℕ → Things
after things (d.CreateTable storage name columns constraints) number = things ++ table_made number storage name columns constraints
after things (d.DropTable name) number = option_map_or (without_table things) (number_of things name) things
after things (d.AddColumn table column constraints) number = with_more things table (parts_made number (Some column) constraints)
after things (d.AddConstraint table constraint) number = with_more things table (parts_made number None (constraint ∷ []))
after things (d.DropConstraint table name) number = option_map_or (without_constraint things name) (number_of things table) things
after things (d.CreateIndex table name columns) number = with_more things table (parts_made number None (record { name = name; rule = rule.Index columns } ∷ []))
after things (d.DropIndex name) number = option_map_or (without_constraint things name) (owner_of things name) things
after things (d.SetControl control) number = things
after things (d.SetDefaultLevel serializable) number = things

-- ---- what a bound definition meets

-- no constraint or index has the name of one of these, and no two of them have one name
abbrev pub AreNew : Things → List Constraint → Type 0
AreNew things constraints = IsDistinct bytes_eq (map (λ c. c.name) constraints) × All (λ c. owner_of things c.name ≡ None) constraints

abbrev pub HasTable : Things → Text → Type 0
HasTable things name = is_some (number_of things name) ≡ true

abbrev pub IsBound : Things → Definition → Type 0
IsBound things (d.CreateTable storage name columns constraints) = (number_of things name ≡ None) × AreNew things constraints
IsBound things (d.DropTable name) = HasTable things name
IsBound things (d.AddColumn table column constraints) = HasTable things table × AreNew things constraints
IsBound things (d.AddConstraint table constraint) = HasTable things table × (owner_of things constraint.name ≡ None)
IsBound things (d.DropConstraint table name) = HasTable things table × (owner_of things name ≡ number_of things table)
IsBound things (d.CreateIndex table name columns) = HasTable things table × (owner_of things name ≡ None)
IsBound things (d.DropIndex name) = is_some (owner_of things name) ≡ true
IsBound things (d.SetControl control) = Unit {0}
IsBound things (d.SetDefaultLevel serializable) = Unit {0}

-- no number of a thing is above this one, nor equal to it where the definition makes a table
abbrev pub IsNext : Things → Definition → ℕ → Type 0
IsNext things (d.CreateTable storage name columns constraints) number = All (λ t. t.number < number) things
IsNext things _ number = All (λ t. t.number ≤ number) things
