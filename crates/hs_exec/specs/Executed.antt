-- What a statement gives over tables.
use Rattle.std.specs.Prelude.{List, Result, Ok}
use Rattle.hs_plan.specs.declared.change.Change.{Change}
use Rattle.hs_plan.specs.declared.plan.Plan.{Plan}
use Rattle.hs_plan.specs.declared.plan.Plan.TheVariants as p
use Rattle.hs_values.specs.declared.fault.EvalFault.{EvalFault}
use Rattle.hs_values.specs.Outcome.{◌>>=◌}
use Rattle.hs_schema.specs.Catalogue.{Things}
use Rattle.hs_changes.specs.Settings.{Maps}
use Rattle.hs_actions.specs.Referencing.{Keys}
use Rattle.hs_answer.specs.Answer.{answer}
use Rattle.hs_expression.specs.Surroundings.{Rows}
use Rattle.hs_dml.specs.Told.{columns_in, tentative}
use Rattle.hs_effects.specs.Effects.{around_in}
use Rattle.hs_exec.specs.declared.answer.Answer.{Answer}
use Rattle.hs_exec.specs.declared.answer.Answer.TheVariants as a

-- the rows that a query answers, or its fault
abbrev pub rows_answered : Result Rows EvalFault → Result Answer EvalFault
rows_answered given = given >>= λ rows. Ok (a.Rows rows)

-- the changes that a statement makes, or its fault
abbrev pub changes_answered : Result (List Change) EvalFault → Result Answer EvalFault
changes_answered given = given >>= λ changes. Ok (a.Changes changes)

-- what a statement gives that isn't a query
abbrev pub changes_made : Maps → Things → Keys → Plan → Result Answer EvalFault
changes_made tables things keys plan = changes_answered (tentative (around_in tables (columns_in things) keys) plan)

-- what a statement gives over the rows of the tables, given the catalogue and its foreign keys
abbrev pub executed : Maps → Things → Keys → Plan → Result Answer EvalFault
executed tables things keys (p.Query query) = rows_answered (answer tables query)
executed tables things keys plan = changes_made tables things keys plan
