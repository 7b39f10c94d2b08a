-- The columns of a table as a definition sees them.
use Rattle.std.specs.Prelude.{ℕ, Bool, not, is_some, if◌then◌else◌, List, [], ◌∷◌, ◌++◌, map, Option}
use Rattle.std.specs.List.{flat_map, position_from}
use Rattle.std.specs.Map.{lookup}
use Rattle.std.specs.Str.{bytes_eq}
use Rattle.hs_ast.specs.declared.word.Identifier.{Identifier}
use Rattle.hs_plan.specs.declared.definition.Column.{Column}
use Rattle.hs_plan.specs.declared.fault.PlacedFault.{PlacedFault}
use Rattle.hs_values.specs.declared.sql_type.SqlType.{SqlType}
use Rattle.hs_elements.specs.Faults.{Text, where_so, no_such_column_at}

-- names with types, in order
abbrev pub TypedNames : Type 0
TypedNames = List (Text × SqlType)

abbrev pub typed_as : TypedNames → Text → Option SqlType
typed_as columns name = lookup (bytes_eq name) columns

abbrev pub has_column : TypedNames → Text → Bool
has_column columns name = is_some (typed_as columns name)

abbrev pub place_in : TypedNames → Text → Option ℕ
place_in columns name = position_from (bytes_eq name) 0 (map (λ c. c.0) columns)

-- with one more, where no column has its name
abbrev pub with_column : TypedNames → Text → SqlType → TypedNames
with_column columns name its = if has_column columns name then columns else columns ++ (name, its) ∷ []

-- each name that is no column's
abbrev pub unknown : TypedNames → List Identifier → List PlacedFault
unknown columns = flat_map (λ n. where_so (not (has_column columns n.name)) (no_such_column_at n))

-- the columns of a table of the catalogue
abbrev pub columns_of : TypedNames → List Column → TypedNames
columns_of before [] = before
columns_of before (c ∷ cs) = columns_of (with_column before c.name c.data_type) cs
