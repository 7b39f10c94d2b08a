-- What is told by the form of an expression alone, whatever the catalogue.
use Rattle.std.specs.Prelude.{ℕ, Bool, ◌==◌, List, [], ◌∷◌, length, map, slice_get, Option, Some, None}
use Rattle.std.specs.List.{filter_map, list_all}
use Rattle.std.specs.Option.{option_map_or}
use Rattle.hs_ast.specs.declared.expression.ColumnName.{ColumnName}
use Rattle.hs_ast.specs.declared.expression.Expression.{Expression, out-Expression}
use Rattle.hs_ast.specs.declared.expression.ExpressionKind.TheOpen.{ExpressionKind-F}
use Rattle.hs_ast.specs.declared.literal.Literal.{Literal}
use Rattle.hs_ast.specs.declared.query.SortKey.{SortKey as AstKey, out-SortKey}
use Rattle.hs_ast.specs.declared.query.ValuesRow.{ValuesRow, out-ValuesRow}
use Rattle.hs_plan.specs.declared.fault.Cause.TheVariants as cause
use Rattle.hs_plan.specs.declared.kind.Kind.TheVariants as kinds
use Rattle.hs_plan.specs.declared.query.Key.TheVariants as plan_key
use Rattle.hs_plan.specs.declared.query.SortKey.{SortKey}
use Rattle.hs_scope.specs.declared.from_table.FromTable.{FromTable}
use Rattle.hs_scope.specs.declared.outputs.KeyMeaning.{KeyMeaning}
use Rattle.hs_scope.specs.declared.outputs.KeyMeaning.TheVariants as key
use Rattle.hs_scope.specs.Outputs.{Layer, layer_of}
use Rattle.hs_typed.specs.Faults.{fault_at}
use Rattle.hs_meaning.specs.declared.placed.PlacedColumn.{PlacedColumn}
use Rattle.hs_meaning.specs.Parts.{Meaning, refused}
use Rattle.hs_meaning.specs.Queries.{name_in, placed_key}
use Rattle.hs_meaning.specs.Selects.{place_named}

abbrev pub literal_in : Layer → Option Literal
literal_in (ExpressionKind-F.Literal literal) = Some literal
literal_in _ = None

abbrev pub column_in : Layer → Option ColumnName
column_in (ExpressionKind-F.Column name) = Some name
column_in _ = None

-- the literal that an expression is, and the column
abbrev pub literal_of : Expression → Option Literal
literal_of e = literal_in (layer_of e)

abbrev pub column_of : Expression → Option ColumnName
column_of e = column_in (layer_of e)

-- the name of a column, and none of any other expression
abbrev pub name_of : Expression → List ℕ
name_of e = name_in (column_of e)

-- ---- GROUP BY

abbrev pub place_of : List FromTable → Expression → Option ℕ
place_of tables e = place_named tables (column_of e)

-- the columns of FROM among expressions, by their places
abbrev pub places_of : List FromTable → List Expression → List ℕ
places_of tables group_by = filter_map (place_of tables) group_by

-- ---- VALUES

abbrev pub values_in : ValuesRow → List Expression
values_in row = (out-ValuesRow row).values

abbrev pub first_of : List ValuesRow → List Expression
first_of rows = option_map_or values_in (slice_get rows 0) []

-- all rows have as many values as the first one
abbrev pub as_many : List Expression → ValuesRow → Bool
as_many values row = length (values_in row) == length values

abbrev pub have_one_length : List ValuesRow → Bool
have_one_length rows = list_all (as_many (first_of rows)) rows

-- a column above a value
abbrev pub column_above : Expression → PlacedColumn
column_above e = record { at = (out-Expression e).at; column = record { name = None; kind = Some kinds.Null } }

abbrev pub columns_above : List ValuesRow → List PlacedColumn
columns_above rows = map column_above (first_of rows)

-- ---- keys of ORDER BY that are no expressions

abbrev pub sorted : AstKey → KeyMeaning → Meaning SortKey
sorted k (key.Output at) = record { faults = []; part = Some (placed_key (out-SortKey k).descending (plan_key.Output at)) }
sorted k key.Value = record { faults = []; part = None }
sorted k key.Types = refused (out-SortKey k).at []
sorted k key.Ambiguous = record { faults = fault_at (out-Expression (out-SortKey k).value).at (cause.Ambiguous (name_of (out-SortKey k).value)); part = None }
