-- The columns that a statement writes, from the left, and the table whose rows it sees.
use Rattle.std.specs.Prelude.{ℕ, List, [], ◌∷◌, map, Option, Some, None}
use Rattle.std.specs.List.{enumerate_from}
use Rattle.hs_ast.specs.declared.word.Identifier.{Identifier}
use Rattle.hs_elements.specs.Columns.{TypedNames, columns_of, typed_as}
use Rattle.hs_meaning.specs.From.{shown_name}
use Rattle.hs_outlines.specs.Outline.{places_in}
use Rattle.hs_plan.specs.declared.definition.Column.{Column}
use Rattle.hs_schema.specs.declared.table.Table.{Table}
use Rattle.hs_scope.specs.declared.from_table.FromTable.{FromTable}
use Rattle.hs_scope.specs.Names.{column_of}
use Rattle.hs_values.specs.declared.sql_type.SqlType.{SqlType}

-- the types of columns; None for one that isn't there
abbrev pub Types : Type 0
Types = List (Option SqlType)

-- each name once, with its type
abbrev pub names_of : Table → TypedNames
names_of t = columns_of [] t.columns

-- ---- INSERT: where no columns are written, it is all of them

abbrev pub all_types : List Column → Types
all_types columns = map (λ c. Some c.data_type) columns

abbrev pub types_named : TypedNames → List Identifier → Types
types_named names list = map (λ n. typed_as names n.name) list

abbrev pub types_of : Table → List Identifier → Types
types_of t [] = all_types t.columns
types_of t (n ∷ ns) = types_named (names_of t) (n ∷ ns)

abbrev pub all_places : List Column → List ℕ
all_places columns = map (λ c. c.0) (enumerate_from 0 columns)

abbrev pub places_of : Table → List Identifier → Option (List ℕ)
places_of t [] = Some (all_places t.columns)
places_of t (n ∷ ns) = places_in (names_of t) (n ∷ ns)

-- ---- UPDATE and DELETE: the table, by its alias alone where it has one

abbrev pub table_as : Table → Identifier → Option Identifier → FromTable
table_as t name alias = record { name = (shown_name name alias).name; columns = map column_of t.columns }
