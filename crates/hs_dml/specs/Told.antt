-- What a statement is told over.
use Rattle.std.specs.Prelude.{ℕ, List, [], Result, Ok}
use Rattle.std.specs.Option.{option_map_or}
use Rattle.hs_plan.specs.declared.definition.Column.{Column}
use Rattle.hs_plan.specs.declared.query.Query.{Query}
use Rattle.hs_values.specs.declared.fault.EvalFault.{EvalFault}
use Rattle.hs_values.specs.declared.value.Value.{Value}
use Rattle.hs_schema.specs.Catalogue.{Things, table_numbered}
use Rattle.hs_changes.specs.Settings.{Maps}
use Rattle.hs_actions.specs.Referencing.{Keys}
use Rattle.hs_tentative.specs.NewRows.{Evaluate}
use Rattle.hs_plan.specs.declared.change.Change.{Change}
use Rattle.hs_plan.specs.declared.plan.Plan.{Plan}
use Rattle.hs_plan.specs.declared.plan.Plan.TheVariants as p
use Rattle.hs_tentative.specs.Statements.{Around, of_delete, of_insert, of_update}

-- what a query gives
abbrev pub Answer : Type 0
Answer = Query → Result (List (List Value)) EvalFault

-- the columns of a table, none where there is no such table
abbrev pub columns_in : Things → ℕ → List Column
columns_in things table = option_map_or (λ t. t.columns) (table_numbered things (record { 0 = table })) []

abbrev pub around_of : Things → Evaluate → Answer → Keys → Maps → Around
around_of things evaluate answer keys before = record { evaluate = evaluate; answer = answer; columns = columns_in things; keys = keys; before = before }

-- the changes that a statement makes
abbrev pub tentative : Around → Plan → Result (List Change) EvalFault
tentative around (p.Insert insert) = of_insert around insert
tentative around (p.Update update) = of_update around update
tentative around (p.Delete delete) = of_delete around delete
tentative around (p.Query query) = Ok []
tentative around (p.LockTable locked) = Ok []
tentative around (p.Define definition) = Ok []
tentative around (p.Session statement) = Ok []
