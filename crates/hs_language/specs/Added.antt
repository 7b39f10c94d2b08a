-- What a definition adds to a table, and what tables have with that.
use Rattle.std.specs.Prelude.{Bool, false, List, [], ◌∷◌, ◌++◌, if◌then◌else◌}
use Rattle.std.specs.Option.{option_map_or}
use Rattle.std.specs.Str.{bytes_eq}
use Rattle.hs_plan.specs.declared.definition.Column.{Column}
use Rattle.hs_plan.specs.declared.definition.Constraint.{Constraint}
use Rattle.hs_plan.specs.declared.definition.Definition.{Definition}
use Rattle.hs_plan.specs.declared.definition.Definition.TheVariants as d
use Rattle.hs_plan.specs.declared.definition.Rule.TheVariants as rule
use Rattle.hs_schema.specs.Catalogue.{Text, Things, table_named}

-- ---- what it adds

abbrev pub columns_added : Definition → List Column
columns_added (d.CreateTable storage name columns constraints) = columns
columns_added (d.AddColumn table column constraints) = column ∷ []
columns_added _ = []

abbrev pub constraints_added : Definition → List Constraint
constraints_added (d.CreateTable storage name columns constraints) = constraints
constraints_added (d.AddColumn table column constraints) = constraints
constraints_added (d.AddConstraint table constraint) = constraint ∷ []
constraints_added _ = []

-- constraints and indexes
abbrev pub parts_added : Definition → List Constraint
parts_added (d.CreateIndex table name columns) = record { name = name; rule = rule.Index columns } ∷ []
parts_added definition = constraints_added definition

-- ---- to which table

-- the name of the table to which it adds them, which it may make
abbrev pub table_of : Definition → Text
table_of (d.CreateTable storage name columns constraints) = name
table_of (d.AddColumn table column constraints) = table
table_of (d.AddConstraint table constraint) = table
table_of (d.CreateIndex table name columns) = table
table_of _ = []

-- it adds columns or constraints to the table of this name
abbrev pub adds_to : Definition → Text → Bool
adds_to (d.CreateTable storage name columns constraints) table = bytes_eq table name
adds_to (d.AddColumn name column constraints) table = bytes_eq table name
adds_to (d.AddConstraint name constraint) table = bytes_eq table name
adds_to _ table = false

-- ---- the table of a name, as it is

-- its columns, none where it isn't there
abbrev pub columns_named : Things → Text → List Column
columns_named things name = option_map_or (λ t. t.columns) (table_named things name) []

-- its constraints and indexes
abbrev pub constraints_named : Things → Text → List Constraint
constraints_named things name = option_map_or (λ t. t.constraints) (table_named things name) []

-- ---- the table of a name, with what the definition adds to it

abbrev pub columns_seen : Things → Definition → Text → List Column
columns_seen things definition name = columns_named things name ++ (if adds_to definition name then columns_added definition else [])

abbrev pub constraints_seen : Things → Definition → Text → List Constraint
constraints_seen things definition name = constraints_named things name ++ (if adds_to definition name then constraints_added definition else [])

-- the columns of the table to which it adds
abbrev pub columns_behind : Things → Definition → List Column
columns_behind things definition = columns_named things (table_of definition) ++ columns_added definition
