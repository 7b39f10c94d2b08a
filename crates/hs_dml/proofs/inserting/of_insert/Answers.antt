use Rattle.std.proofs.Common.{List, Result, Ok, map, subst, sym, ap, ◌∙◌}
use Rattle.hs_plan.specs.declared.change.Change.{Change}
use Rattle.hs_plan.specs.declared.change.Change.TheVariants as change
use Rattle.hs_plan.specs.declared.plan.InsertSource.{InsertSource}
use Rattle.hs_values.specs.declared.fault.EvalFault.{EvalFault}
use Rattle.hs_values.specs.declared.value.Value.{Value}
use Rattle.hs_values.specs.Outcome.{◌>>=◌, Gives}
use Rattle.hs_expression.specs.Outcomes.{all_or_least}
use Rattle.hs_tentative.specs.NewRows.{inserted}
use Rattle.hs_tentative.specs.Statements.{rows_from}
use Rattle.hs_dml.specs.Rows.{inserts, taken}
use Rattle.hs_dml.specs.Told.{around_of, columns_in}
use Rattle.hs_dml.proofs.inserting.of_insert.Goals as goal

pub returns-in-Tuples : goal.returns-in-Tuples
returns-in-Tuples g c = λ keys before.
    let insert = c.args.insert.now in
    let evaluate = g.E.Evaluates.evaluate c.args.evaluator.now in
    let around = around_of c.args.cat.now evaluate (g.Q.Answers.answer c.args.queries.now) keys before in
    let columns = columns_in c.args.cat.now insert.table.0 in
    subst (λ (means : Result (List Change) EvalFault). Gives c.ended.result means)
    ((λ i. inserts insert.table (all_or_least (map (inserted evaluate (c.columns_of-columns.ensures i) (c.as_slice-places.ensures i)) (c.as_slice-given.ensures i))))
    ∙ sym (ap (λ (source : InsertSource). inserts insert.table (rows_from around columns insert.columns source)) c.in-Tuples.is))
    (c.ended.ensures _ c.of_tuples.ensures)

pub returns-in-Query : goal.returns-in-Query
returns-in-Query g c = λ keys before.
    let insert = c.args.insert.now in
    let evaluate = g.E.Evaluates.evaluate c.args.evaluator.now in
    let answer = g.Q.Answers.answer c.args.queries.now in
    let around = around_of c.args.cat.now evaluate answer keys before in
    let columns = columns_in c.args.cat.now insert.table.0 in
    subst (λ (means : Result (List Change) EvalFault). Gives c.of_query.result means)
    ((λ i. inserts insert.table (taken (c.columns_of-columns.ensures i) (c.as_slice-places.ensures i) (answer c.in-Query.query)))
    ∙ sym (ap (λ (source : InsertSource). inserts insert.table (rows_from around columns insert.columns source)) c.in-Query.is))
    c.of_query.ensures
