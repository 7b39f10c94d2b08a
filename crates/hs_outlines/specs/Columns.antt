-- The columns of a definition's text.
use Rattle.std.specs.Prelude.{is_some, not, List, [], ◌∷◌, ◌++◌, map, fold, Option, Some, None}
use Rattle.std.specs.List.{flat_map}
use Rattle.hs_ast.specs.declared.definition.ColumnDefinition.{ColumnDefinition}
use Rattle.hs_ast.specs.declared.definition.DefaultValue.{DefaultValue}
use Rattle.hs_ast.specs.declared.definition.TableElement.{TableElement}
use Rattle.hs_ast.specs.declared.definition.TableElement.TheVariants as element
use Rattle.hs_elements.specs.Columns.{TypedNames, has_column, with_column}
use Rattle.hs_elements.specs.Defaults.{default_of}
use Rattle.hs_elements.specs.Faults.{exists_at, fault_at, where_so}
use Rattle.hs_plan.specs.declared.definition.Column.{Column}
use Rattle.hs_plan.specs.declared.fault.Cause.TheVariants as cause
use Rattle.hs_plan.specs.declared.fault.PlacedFault.{PlacedFault}
use Rattle.hs_typed.specs.Literals.{sql_type_of}
use Rattle.hs_values.specs.declared.sql_type.SqlType.{SqlType}
use Rattle.hs_values.specs.declared.value.Value.{Value}

-- ---- defaults

-- what is written, as a value of the type
abbrev pub default_value : SqlType → Option DefaultValue → Option Value
default_value type None = None
default_value type (Some d) = default_of type d.literal

-- at the literal, where it can't be assigned
abbrev pub default_faults : SqlType → Option DefaultValue → List PlacedFault
default_faults type None = []
default_faults type (Some d) = where_so (not (is_some (default_of type d.literal))) (fault_at d.at cause.Types)

-- ---- one column

abbrev pub type_of : ColumnDefinition → SqlType
type_of c = sql_type_of c.data_type

abbrev pub column_of : ColumnDefinition → Column
column_of c = record { name = c.name.name; data_type = type_of c; default = default_value (type_of c) c.default }

-- behind columns of these names
abbrev pub column_faults : TypedNames → ColumnDefinition → List PlacedFault
column_faults names c = where_so (has_column names c.name.name) (exists_at c.name) ++ default_faults (type_of c) c.default

-- ---- all of them

abbrev pub column_in : TableElement → List ColumnDefinition
column_in (element.Column c) = c ∷ []
column_in (element.Constraint t) = []

abbrev pub definitions : List TableElement → List ColumnDefinition
definitions = flat_map column_in

abbrev pub columns_written : List TableElement → List Column
columns_written elements = map column_of (definitions elements)

abbrev pub with_definition : TypedNames → ColumnDefinition → TypedNames
with_definition names c = with_column names c.name.name (type_of c)

abbrev pub names_after : TypedNames → List ColumnDefinition → TypedNames
names_after = fold with_definition

abbrev pub columns_faults : TypedNames → List ColumnDefinition → List PlacedFault
columns_faults names [] = []
columns_faults names (c ∷ cs) = column_faults names c ++ columns_faults (with_definition names c) cs
