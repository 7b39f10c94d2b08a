-- What DROP of a table, a constraint or an index means over a catalogue, and CREATE INDEX.
use Rattle.std.specs.Prelude.{ℕ, Bool, true, false, not, ◌&&◌, is_some, if◌then◌else◌, List, [], ◌∷◌, ◌++◌, length, Option, None}
use Rattle.std.specs.List.{list_any}
use Rattle.std.specs.Option.{option_map, option_map_or}
use Rattle.std.specs.Str.{bytes_eq}
use Rattle.hs_ast.specs.declared.definition.CreateIndex.{CreateIndex}
use Rattle.hs_ast.specs.declared.word.Identifier.{Identifier}
use Rattle.hs_elements.specs.Columns.{columns_of, unknown}
use Rattle.hs_elements.specs.Faults.{Text, exists_at, no_such_column_at, no_such_table_at, repeated, where_so}
use Rattle.hs_meaning.specs.Parts.{Meaning, meant}
use Rattle.hs_plan.specs.declared.definition.Constraint.{Constraint}
use Rattle.hs_plan.specs.declared.definition.Definition.{Definition}
use Rattle.hs_plan.specs.declared.definition.Definition.TheVariants as d
use Rattle.hs_plan.specs.declared.definition.Rule.{Rule}
use Rattle.hs_plan.specs.declared.definition.Rule.TheVariants as rule
use Rattle.hs_plan.specs.declared.fault.Which.TheVariants as which
use Rattle.hs_schema.specs.Catalogue.{Things, number_of, owner_of, place_of, table_numbered}
use Rattle.hs_schema.specs.declared.table.Table.{Table}
use Rattle.hs_outlines.specs.Limits.{beyond}
use Rattle.hs_outlines.specs.Outline.{places_in}

-- ---- constraints and indexes of a table

abbrev pub is_index : Rule → Bool
is_index (rule.Index columns) = true
is_index _ = false

abbrev pub is_constraint_named : Text → Constraint → Bool
is_constraint_named name c = bytes_eq name c.name && not (is_index c.rule)

abbrev pub is_index_named : Text → Constraint → Bool
is_index_named name c = bytes_eq name c.name && is_index c.rule

abbrev pub has_constraint : List Constraint → Text → Bool
has_constraint constraints name = list_any (is_constraint_named name) constraints

abbrev pub has_index : List Constraint → Text → Bool
has_index constraints name = list_any (is_index_named name) constraints

-- ---- what isn't there

abbrev pub no_table : Identifier → Meaning Definition
no_table name = record { faults = no_such_table_at name ∷ []; part = None }

-- the name of a constraint or an index, as that of a column
abbrev pub no_name : Identifier → Meaning Definition
no_name name = record { faults = no_such_column_at name ∷ []; part = None }

-- ---- DROP

abbrev pub table_dropped : Things → Identifier → Meaning Definition
table_dropped things name = if is_some (number_of things name.name) then meant (d.DropTable name.name) else no_table name

-- an index is no constraint
abbrev pub constraint_dropped : Table → Identifier → Identifier → Meaning Definition
constraint_dropped t table name = if has_constraint t.constraints name.name then meant (d.DropConstraint table.name name.name) else no_name name

-- the table that has this name among its constraints and indexes has an index of it
abbrev pub is_index_of : Things → Text → Bool
is_index_of things name = option_map_or (λ p. option_map_or (λ t. has_index t.constraints name) (table_numbered things p.table) false) (place_of things name) false

-- a constraint is no index
abbrev pub index_dropped : Things → Identifier → Meaning Definition
index_dropped things name = if is_index_of things name.name then meant (d.DropIndex name.name) else no_name name

-- ---- CREATE INDEX

abbrev pub index_by : Text → Text → Option (List ℕ) → Option Definition
index_by table name columns = option_map (d.CreateIndex table name) columns

abbrev pub index_created : Things → CreateIndex → Table → Meaning Definition
index_created things c t =
    record {
      faults =
          where_so (is_some (owner_of things c.name.name)) (exists_at c.name)
          ++ unknown (columns_of [] t.columns) c.columns
          ++ repeated [] c.columns
          ++ beyond c.table.at which.Constraints (length t.constraints) 1;
      part = index_by c.table.name c.name.name (places_in (columns_of [] t.columns) c.columns);
    }
