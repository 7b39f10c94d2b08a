-- What the values that a statement writes mean.
use Rattle.std.specs.Prelude.{ℕ, ◌==◌, if◌then◌else◌, List, [], ◌∷◌, ◌++◌, length, map, Option, Some, None}
use Rattle.std.specs.List.{flat_map}
use Rattle.std.specs.Option.{option_map}
use Rattle.hs_ast.specs.declared.change.InsertSource.{InsertSource as WrittenSource}
use Rattle.hs_ast.specs.declared.change.InsertSource.TheVariants as from
use Rattle.hs_ast.specs.declared.change.NewValue.{NewValue as WrittenValue}
use Rattle.hs_ast.specs.declared.change.NewValue.TheVariants as written
use Rattle.hs_ast.specs.declared.expression.Expression.{Expression}
use Rattle.hs_ast.specs.declared.query.Query.{Query}
use Rattle.hs_meaning.specs.declared.placed.PlacedColumn.{PlacedColumn}
use Rattle.hs_meaning.specs.Layers.{QueryMeaning, means}
use Rattle.hs_meaning.specs.Parts.{Meaning, all, meant}
use Rattle.hs_meaning.specs.Queries.{uneven}
use Rattle.hs_meaning.specs.Statements.{over, query_meaning, value_meaning}
use Rattle.hs_meaning.specs.Trees.{part_of}
use Rattle.hs_plan.specs.declared.fault.Cause.TheVariants as cause
use Rattle.hs_plan.specs.declared.fault.PlacedFault.{PlacedFault}
use Rattle.hs_plan.specs.declared.kind.Kind.{Kind}
use Rattle.hs_plan.specs.declared.plan.InsertSource.{InsertSource}
use Rattle.hs_plan.specs.declared.plan.InsertSource.TheVariants as source
use Rattle.hs_plan.specs.declared.plan.NewValue.{NewValue}
use Rattle.hs_plan.specs.declared.plan.NewValue.TheVariants as new
use Rattle.hs_plan.specs.Typing.{is_assignable}
use Rattle.hs_schema.specs.Catalogue.{Things}
use Rattle.hs_scope.specs.declared.from_table.FromTable.{FromTable}
use Rattle.hs_typed.specs.declared.typed.Typed.{Typed}
use Rattle.hs_typed.specs.Faults.{fault_at}
use Rattle.hs_values.specs.declared.sql_type.SqlType.{SqlType}
use Rattle.hs_writing.specs.Targets.{Types}

-- ---- one value

-- for a column that isn't there an expression has its own faults alone
unfoldable pub expression_for : Things → List FromTable → Option SqlType → Expression → Meaning Typed
expression_for things tables (Some column) e = value_meaning things tables column e
expression_for things tables None e = means (part_of things e) (over tables)

abbrev pub as_value : Option Typed → Option NewValue
as_value part = option_map (λ t. new.Value t.tree) part

-- DEFAULT goes with every column
unfoldable pub value_for : Things → List FromTable → Option SqlType → WrittenValue → Meaning NewValue
value_for things tables column (written.Expression e) = record { faults = (expression_for things tables column e).faults; part = as_value (expression_for things tables column e).part }
value_for things tables column (written.Default at) = meant new.Default

-- ---- rows of VALUES

-- each value for the column above it
abbrev pub values_below : Things → List FromTable → Types → List WrittenValue → List (Meaning NewValue)
values_below things tables (c ∷ cs) (v ∷ vs) = value_for things tables c v ∷ values_below things tables cs vs
values_below things tables (c ∷ cs) [] = []
values_below things tables [] vs = []

-- the faults of values that are paired with no column
abbrev pub unpaired : Things → List FromTable → List WrittenValue → List PlacedFault
unpaired things tables = flat_map (λ v. (value_for things tables None v).faults)

-- in a row with more or fewer values than there are columns nothing is paired
unfoldable pub tuple_meaning : Things → List FromTable → Types → List WrittenValue → Meaning (List NewValue)
tuple_meaning things tables columns values =
    if length columns == length values then all (values_below things tables columns values)
    else record { faults = uneven ++ unpaired things tables values; part = None }

abbrev pub tuples_meaning : Things → List FromTable → Types → List (List WrittenValue) → Meaning (List (List NewValue))
tuples_meaning things tables columns tuples = all (map (tuple_meaning things tables columns) tuples)

-- ---- rows of a query

abbrev pub misfit_by : SqlType → ℕ → Option Kind → List PlacedFault
misfit_by column at (Some kind) = if is_assignable column kind then [] else fault_at at cause.Types
misfit_by column at None = []

-- a column of the query that can't be assigned to the one above it is told at the item of its leftmost core
abbrev pub misfit : Option SqlType → PlacedColumn → List PlacedFault
misfit (Some column) c = misfit_by column c.at c.column.kind
misfit None c = []

abbrev pub misfits : Types → List PlacedColumn → List PlacedFault
misfits (t ∷ ts) (c ∷ cs) = misfit t c ++ misfits ts cs
misfits (t ∷ ts) [] = []
misfits [] cs = []

abbrev pub mismatches : Types → List PlacedColumn → List PlacedFault
mismatches columns given = if length columns == length given then misfits columns given else uneven

unfoldable pub rows_of_query : Types → QueryMeaning → Meaning InsertSource
rows_of_query columns q = record { faults = q.faults ++ mismatches columns q.columns; part = option_map source.Query q.plan }

-- ---- both

abbrev pub from_tuples : Option (List (List NewValue)) → Option InsertSource
from_tuples tuples = option_map source.Tuples tuples

-- values of VALUES see no rows
unfoldable pub source_meaning : Things → Types → WrittenSource → Meaning InsertSource
source_meaning things columns (from.Tuples tuples) = record { faults = (tuples_meaning things [] columns tuples).faults; part = from_tuples (tuples_meaning things [] columns tuples).part }
source_meaning things columns (from.Query query) = rows_of_query columns (query_meaning things query)
