-- Queries that read the rows of one table through WHERE alone.
use Rattle.std.specs.Prelude.{◌≡◌, ◌==◌, false, List, [], ◌∷◌, map, Some, Result, Ok, Err}
use Rattle.std.specs.List.{Contains}
use Rattle.hs_base.specs.declared.numbers.TableNo.{TableNo}
use Rattle.hs_plan.specs.declared.expression.Expr.{Expr}
use Rattle.hs_plan.specs.declared.query.FromItem.{FromItem}
use Rattle.hs_plan.specs.declared.query.Query.{Query}
use Rattle.hs_plan.specs.declared.query.Select.{Select, out-Select}
use Rattle.hs_plan.specs.declared.query.Source.{Source}
use Rattle.hs_plan.specs.Named.{concat, named_in_from, named_in_query, named_in_source}
use Rattle.hs_values.specs.declared.fault.EvalFault.{EvalFault}
use Rattle.hs_changes.specs.Settings.{Maps}
use Rattle.hs_expression.specs.Surroundings.{Rows}
use Rattle.hs_rel.specs.Selection.{selected}
use Rattle.hs_answer.specs.Answer.{element_in, query_in, source_in, value_in}
use Rattle.hs_answer.specs.From.{from_rows, rows_in}
use Rattle.hs_answer.specs.Places.{value_over}

-- each of these tables but one has the same rows in both
abbrev pub AgreeBut : TableNo → Maps → Maps → List TableNo → Type 0
AgreeBut one a b named = (table : TableNo) → Contains named table → (table.0 == one.0) ≡ false → a table.0 ≡ b table.0

-- what a condition chooses of rows
abbrev pub chosen : Maps → Expr → Rows → Rows → Result Rows EvalFault
chosen tables condition outer rows = selected (value_over (value_in tables condition) outer) rows

-- of one table a query reads what a condition chooses, and no more: it answers the same over other rows of that table of
-- which the condition chooses the same, and a fault that the condition has is the query's
pub record ReadsThrough (query : Query) (table : TableNo) (condition : Expr) : Type 0 where
  pub same : (a b : Maps) (outer : Rows) → AgreeBut table a b (named_in_query query) → chosen a condition outer (rows_in b table) ≡ chosen a condition outer (rows_in a table) → query_in b query outer ≡ query_in a query outer
  pub fault : (a : Maps) (outer : Rows) (fault : EvalFault) → chosen a condition outer (rows_in a table) ≡ Err fault → query_in a query outer ≡ Err fault

-- ---- its parts

-- a source is this table
pub record IsTable (source : Source) (table : TableNo) : Type 0 where
  pub rows : (tables : Maps) (outer : Rows) → (source_in tables source).rows outer ≡ Ok (rows_in tables table)
  pub named : named_in_source source ≡ table ∷ []

-- FROM is this table alone
pub record IsTableAlone (from : List FromItem) (table : TableNo) : Type 0 where
  pub rows : (tables : Maps) (outer : Rows) → from_rows outer (map (element_in tables) from) ≡ Ok (rows_in tables table)
  pub named : concat (map named_in_from from) ≡ table ∷ []

-- a SELECT is of this table alone, and has this condition in WHERE
pub record IsChoice (select : Select) (table : TableNo) (condition : Expr) : Type 0 where
  pub from : IsTableAlone (out-Select select).from table
  pub filter : (out-Select select).filter ≡ Some condition
