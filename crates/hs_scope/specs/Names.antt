-- What a column's name means: a column of the FROM of its own query, or of a query around it.
use Rattle.std.specs.Prelude.{ℕ, ◌+◌, Bool, false, ◌&&◌, List, [], ◌∷◌, map, filter, Option, Some, None}
use Rattle.std.specs.List.{flat_map, enumerate_from, list_any}
use Rattle.std.specs.Option.{option_map_or}
use Rattle.std.specs.Str.{bytes_eq}
use Rattle.hs_ast.specs.declared.expression.ColumnName.{ColumnName}
use Rattle.hs_ast.specs.declared.expression.CaseArm.{CaseArm}
use Rattle.hs_ast.specs.declared.expression.Expression.{Expression}
use Rattle.hs_ast.specs.declared.expression.ExpressionKind.{ExpressionKind}
use Rattle.hs_ast.specs.declared.expression.ExpressionKind.TheOpen.{TableReference-F}
use Rattle.hs_ast.specs.declared.query.FromItem.{FromItem}
use Rattle.hs_ast.specs.declared.query.Join.{Join}
use Rattle.hs_ast.specs.declared.query.Query.{Query}
use Rattle.hs_ast.specs.declared.query.QueryBody.{QueryBody}
use Rattle.hs_ast.specs.declared.query.Select.{Select}
use Rattle.hs_ast.specs.declared.query.SelectItem.{SelectItem}
use Rattle.hs_ast.specs.declared.query.SortKey.{SortKey}
use Rattle.hs_ast.specs.declared.query.TableReference.{TableReference, out-TableReference}
use Rattle.hs_ast.specs.declared.query.ValuesRow.{ValuesRow}
use Rattle.hs_ast.specs.declared.word.Identifier.{Identifier}
use Rattle.hs_plan.specs.declared.definition.Column.{Column}
use Rattle.hs_plan.specs.Typing.{kind_of_type}
use Rattle.hs_scope.specs.declared.column.OutputColumn.{OutputColumn}
use Rattle.hs_scope.specs.declared.from_table.FromTable.{FromTable}
use Rattle.hs_scope.specs.declared.sought.Found.{Found}
use Rattle.hs_scope.specs.declared.sought.Found.TheVariants as found
use Rattle.hs_scope.specs.declared.sought.Sought.{Sought}
use Rattle.hs_scope.specs.declared.sought.Sought.TheVariants as sought

abbrev pub Text : Type 0
Text = List ℕ

-- ---- what a FROM offers

-- the name that a table has in its FROM: its alias alone, where it has one
abbrev pub name_of : TableReference-F ExpressionKind Join QueryBody SelectItem TableReference CaseArm Expression FromItem Query Select SortKey ValuesRow → Identifier
name_of (TableReference-F.Named name None) = name
name_of (TableReference-F.Named name (Some alias)) = alias
name_of (TableReference-F.Derived query alias) = alias

abbrev pub named_as : TableReference → Identifier
named_as table = name_of (out-TableReference table)

-- a column of a table, as a query sees it
abbrev pub column_of : Column → OutputColumn
column_of c = record { name = Some c.name; kind = Some (kind_of_type c.data_type) }

-- `*`: all columns, those of the first table, then those of the next
abbrev pub every_column : List FromTable → List OutputColumn
every_column = flat_map (λ t. t.columns)

-- a column, with the name of its table
abbrev pub Offer : Type 0
Offer = Text × OutputColumn

abbrev pub offered_by : FromTable → List Offer
offered_by t = map (λ c. (t.name, c)) t.columns

-- all columns in the same order, each with the name of its table
abbrev pub offers : List FromTable → List Offer
offers = flat_map offered_by

-- a table of this name stands in the FROM
abbrev pub is_offered : List FromTable → Text → Bool
is_offered tables name = list_any (λ t. bytes_eq name t.name) tables

-- ---- names in one FROM

abbrev pub has_name : Text → OutputColumn → Bool
has_name name column = option_map_or (bytes_eq name) column.name false

-- the column has this name, and its table that name where one is written
abbrev pub is_meant : Option Text → Text → Offer → Bool
is_meant None name offer = has_name name offer.1
is_meant (Some table) name offer = bytes_eq table offer.0 && has_name name offer.1

-- of columns with their places: there is none, exactly one, or more
abbrev pub only : List (ℕ × OutputColumn) → Sought
only [] = sought.Missing
only (c ∷ []) = sought.One c.0 c.1.kind
only (c ∷ d ∷ rest) = sought.Several

-- the columns that a name may mean in a FROM, with their places among all columns
abbrev pub meant : List FromTable → Option Text → Text → List (ℕ × Offer)
meant tables table name = filter (λ o. is_meant table name o.1) (enumerate_from 0 (offers tables))

abbrev pub sought_in : List FromTable → Option Text → Text → Sought
sought_in tables table name = only (map (λ o. (o.0, o.1.1)) (meant tables table name))

-- the columns of a list that have a name
abbrev pub sought_among : List OutputColumn → Text → Sought
sought_among columns name = only (filter (λ c. has_name name c.1) (enumerate_from 0 columns))

-- ---- names from the inside outward

-- what a name means one query farther out
abbrev pub outward : Found → Found
outward (found.Column n at kind) = found.Column (n + 1) at kind
outward found.Missing = found.Missing
outward found.Ambiguous = found.Ambiguous

-- the FROM that has the name decides; where none of its columns has it, the queries around it do
abbrev pub inside : Sought → Found → Found
inside sought.Missing around = outward around
inside (sought.One at kind) around = found.Column 0 at kind
inside sought.Several around = found.Ambiguous

-- the FROMs of a query and of those around it, the innermost first
abbrev pub found_in : List (List FromTable) → ColumnName → Found
found_in [] name = found.Missing
found_in (tables ∷ around) name = inside (sought_in tables name.table name.column) (found_in around name)
