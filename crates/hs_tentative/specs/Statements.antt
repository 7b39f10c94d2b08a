-- The changes that a writing statement names.
use Rattle.std.specs.Prelude.{ℕ, List, [], map, filter, Option, None, Some, Result, Ok, Err}
use Rattle.std.specs.FinMap.{entries}
use Rattle.hs_base.specs.declared.numbers.RowName.{RowName}
use Rattle.hs_base.specs.declared.numbers.TableNo.{TableNo}
use Rattle.hs_plan.specs.declared.change.Change.{Change}
use Rattle.hs_plan.specs.declared.change.Change.TheVariants as change
use Rattle.hs_plan.specs.declared.definition.Column.{Column}
use Rattle.hs_plan.specs.declared.expression.Expr.{Expr}
use Rattle.hs_plan.specs.declared.plan.Delete.{Delete}
use Rattle.hs_plan.specs.declared.plan.Insert.{Insert}
use Rattle.hs_plan.specs.declared.plan.InsertSource.{InsertSource}
use Rattle.hs_plan.specs.declared.plan.InsertSource.TheVariants as source
use Rattle.hs_plan.specs.declared.plan.Update.{Update}
use Rattle.hs_plan.specs.declared.query.Query.{Query}
use Rattle.hs_values.specs.declared.fault.EvalFault.{EvalFault}
use Rattle.hs_values.specs.declared.value.Value.{Value}
use Rattle.hs_values.specs.Outcome.{◌>>=◌}
use Rattle.hs_rel.specs.Selection.{is_true, least_fault, unless}
use Rattle.hs_changes.specs.Settings.{Maps}
use Rattle.hs_actions.specs.Referencing.{Keys}
use Rattle.hs_actions.specs.Work.{Edits, with_actions, change_of}
use Rattle.hs_expression.specs.Outcomes.{all_or_least}
use Rattle.hs_tentative.specs.NewRows.{Evaluate, inserted, taken_in, updated}

-- what a statement is told over: what expressions and queries give, the columns of each table, the foreign keys, and the
-- rows before it
pub record Around : Type 0 where
  pub evaluate : Evaluate
  pub answer : Query → Result (List (List Value)) EvalFault
  pub columns : ℕ → List Column
  pub keys : Keys
  pub before : Maps

abbrev pub Numbered : Type 0
Numbered = List (ℕ × List Value)

-- the rows for which a condition is TRUE, by their numbers, or the least of its faults
abbrev pub for_which : Evaluate → Option Expr → Numbered → Result Numbered EvalFault
for_which evaluate None rows = Ok rows
for_which evaluate (Some condition) rows =
    unless (least_fault (evaluate condition) (map (λ e. e.1) rows)) (filter (λ e. is_true (evaluate condition e.1)) rows)

-- ---- INSERT

-- its rows, in the order of VALUES or of the query's answer
abbrev pub rows_from : Around → List Column → List ℕ → InsertSource → Result (List (List Value)) EvalFault
rows_from around columns places (source.Tuples tuples) = all_or_least (map (inserted around.evaluate columns places) tuples)
rows_from around columns places (source.Query query) = around.answer query >>= λ rows. all_or_least (map (taken_in columns places) rows)

abbrev pub of_insert : Around → Insert → Result (List Change) EvalFault
of_insert around insert = rows_from around (around.columns insert.table.0) insert.columns insert.source >>= λ rows. Ok (map (change.Insert insert.table) rows)

-- ---- UPDATE and DELETE

abbrev pub name_in : TableNo → ℕ → RowName
name_in table row = record { table = table; row = record { 0 = row } }

-- the rows that are changed with those that actions change: one change for each, by the numbers of tables and then of rows
abbrev pub with_those_of_actions : Around → Edits → Result (List Change) EvalFault
with_those_of_actions around edits = with_actions around.before around.keys edits >>= λ all. Ok (map change_of all)

abbrev pub one_updated : Around → Update → (ℕ × List Value) → Result (RowName × Option (List Value)) EvalFault
one_updated around update e = updated around.evaluate (around.columns update.table.0) update.assignments e.1 >>= λ row. Ok (name_in update.table e.0, Some row)

abbrev pub of_update : Around → Update → Result (List Change) EvalFault
of_update around update =
    for_which around.evaluate update.filter (entries (around.before update.table.0)) >>= λ rows.
    all_or_least (map (one_updated around update) rows) >>= with_those_of_actions around

abbrev pub of_delete : Around → Delete → Result (List Change) EvalFault
of_delete around delete =
    for_which around.evaluate delete.filter (entries (around.before delete.table.0)) >>= λ rows.
    with_those_of_actions around (map (λ e. (name_in delete.table e.0, None)) rows)
