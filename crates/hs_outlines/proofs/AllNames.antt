-- Names of columns, one list behind another.
use Rattle.std.proofs.Common.{◌≡◌, List, [], ◌∷◌, ◌++◌, map, refl, sym, ◌∙◌}
use Rattle.hs_ast.specs.declared.definition.ColumnDefinition.{ColumnDefinition}
use Rattle.hs_elements.specs.Columns.{TypedNames, columns_of, with_column}
use Rattle.hs_plan.specs.declared.definition.Column.{Column}
use Rattle.hs_outlines.specs.Columns.{column_of, names_after, with_definition}

names_more : (names : TypedNames) (xs ys : List Column) → columns_of names (xs ++ ys) ≡ columns_of (columns_of names xs) ys
names_more names [] ys = refl
names_more names (x ∷ xs) ys = names_more (with_column names x.name x.data_type) xs ys

names_written : (names : TypedNames) (cs : List ColumnDefinition) → columns_of names (map column_of cs) ≡ names_after names cs
names_written names [] = refl
names_written names (c ∷ cs) = names_written (with_definition names c) cs

-- the names of a table's columns and of those that are added
pub all_names : (columns : List Column) (cs : List ColumnDefinition) → names_after (columns_of [] columns) cs ≡ columns_of [] (columns ++ map column_of cs)
all_names columns cs = sym (names_more [] columns (map column_of cs) ∙ names_written (columns_of [] columns) cs)
