-- A query that breaks no rule, with its output columns.
use Rattle.std.specs.Prelude.{List, Option}
use Rattle.std.specs.Option.{option_map}
use Rattle.hs_meaning.specs.declared.placed.PlacedColumn.{PlacedColumn}
use Rattle.hs_plan.specs.declared.query.Query.{Query}
use Rattle.hs_resolve.specs.declared.statements.StatementQuery.{StatementQuery}

abbrev pub statement_query : List PlacedColumn → Option Query → Option StatementQuery
statement_query columns plan = option_map (λ p. record { columns = columns; plan = p }) plan
