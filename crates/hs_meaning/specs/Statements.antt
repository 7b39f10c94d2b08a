-- What the queries, conditions and values of a statement mean, and what is answered.
use Rattle.std.specs.Prelude.{◌≡◌, List, [], ◌∷◌, Option, Some, None, Result, Ok, Err}
use Rattle.std.specs.Option.{option_map}
use Rattle.hs_ast.specs.declared.expression.Expression.{Expression}
use Rattle.hs_ast.specs.declared.query.Query.{Query}
use Rattle.hs_plan.specs.declared.fault.BindFault.{BindFault}
use Rattle.hs_plan.specs.declared.fault.BindFault.TheVariants.{NoMemory}
use Rattle.hs_plan.specs.declared.fault.PlacedFault.{PlacedFault}
use Rattle.hs_plan.specs.Fault.{fault_of}
use Rattle.hs_schema.specs.Catalogue.{Things}
use Rattle.hs_scope.specs.declared.from_table.FromTable.{FromTable}
use Rattle.hs_typed.specs.declared.typed.Typed.{Typed}
use Rattle.hs_typed.specs.Faults.{least}
use Rattle.hs_typed.specs.Rules.{assigned_typed}
use Rattle.hs_values.specs.declared.sql_type.SqlType.{SqlType}
use Rattle.hs_meaning.specs.Layers.{QueryMeaning, means}
use Rattle.hs_meaning.specs.Parts.{Meaning, by_one}
use Rattle.hs_meaning.specs.Expressions.{condition}
use Rattle.hs_meaning.specs.Surroundings.{Surroundings, in_check, outermost, over_rows}
use Rattle.hs_meaning.specs.Trees.{part_of, query_of}

-- a query by itself
abbrev pub query_meaning : Things → Query → QueryMeaning
query_meaning things query = query_of things query outermost

-- over the rows of one table, or of none
abbrev pub over : List FromTable → Surroundings
over tables = over_rows tables outermost

-- WHERE of an UPDATE or a DELETE
abbrev pub condition_meaning : Things → List FromTable → Expression → Meaning Typed
condition_meaning things tables e = condition (over tables) (part_of things e)

-- a value that is assigned to a column of a type
abbrev pub value_meaning : Things → List FromTable → SqlType → Expression → Meaning Typed
value_meaning things tables column e = by_one (assigned_typed column) (part_of things e).at (means (part_of things e) (over tables))

-- CHECK, which has no queries, so that no catalogue counts
abbrev pub check_meaning : List FromTable → Expression → Meaning Typed
check_meaning tables e = condition (in_check (over tables)) (part_of [] e)

-- ---- answers

-- what is meant where there is no fault, and else the fault that comes before all others; want of memory may come in its place
abbrev pub IsAnswer : {A : Type 0} → List PlacedFault → Option A → Result A BindFault → Type 0
IsAnswer faults means (Ok a) = (faults ≡ []) × (means ≡ Some a)
IsAnswer faults means (Err fault) = ¬ (fault ≡ NoMemory) → option_map fault_of (least faults) ≡ Some fault
