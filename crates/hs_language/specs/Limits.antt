-- The limits that a definition keeps.
use Rattle.std.specs.Prelude.{ℕ, ◌+◌, ◌==◌, nat_le, ◌&&◌, ◌||◌, Bool, List, filter, length}
use Rattle.hs_outlines.specs.Limits.{most}
use Rattle.hs_outlines.specs.Named.{is_primary_key}
use Rattle.hs_plan.specs.declared.definition.Constraint.{Constraint}
use Rattle.hs_plan.specs.declared.definition.Definition.{Definition}
use Rattle.hs_plan.specs.declared.definition.Definition.TheVariants as d
use Rattle.hs_plan.specs.declared.fault.Which.TheVariants as which
use Rattle.hs_schema.specs.Catalogue.{Things, named}
use Rattle.hs_language.specs.Added.{columns_added, columns_named, constraints_added, constraints_named, parts_added, table_of}

-- where there are more, there are at most so many with them
abbrev pub stays_within : ℕ → ℕ → ℕ → Bool
stays_within limit before more = (more == 0) || nat_le (before + more) limit

-- how many tables it makes
abbrev pub tables_added : Definition → ℕ
tables_added (d.CreateTable storage name columns constraints) = 1
tables_added _ = 0

-- how many of the constraints are primary keys
abbrev pub primary_keys : List Constraint → ℕ
primary_keys constraints = length (filter (λ c. is_primary_key c.rule) constraints)

-- at most 1,024 tables
abbrev pub keeps_tables : Things → Definition → Bool
keeps_tables things definition = stays_within (most which.Tables) (length (named things)) (tables_added definition)

-- at most 64 columns of a table
abbrev pub keeps_columns : Things → Definition → Bool
keeps_columns things definition = stays_within (most which.Columns) (length (columns_named things (table_of definition))) (length (columns_added definition))

-- at most 64 constraints and indexes of a table
abbrev pub keeps_parts : Things → Definition → Bool
keeps_parts things definition = stays_within (most which.Constraints) (length (constraints_named things (table_of definition))) (length (parts_added definition))

-- at most one primary key of a table
abbrev pub keeps_primary_key : Things → Definition → Bool
keeps_primary_key things definition = stays_within 1 (primary_keys (constraints_named things (table_of definition))) (primary_keys (constraints_added definition))

abbrev pub keeps_limits : Things → Definition → Bool
keeps_limits things definition = keeps_tables things definition && (keeps_columns things definition && (keeps_parts things definition && keeps_primary_key things definition))
