use Rattle.std.proofs.Common.{Option, Some, None, Ok, List, map, subst, sym}
use Rattle.std.specs.FinMap.{entries}
use Rattle.hs_base.specs.declared.numbers.RowNo.{RowNo}
use Rattle.hs_plan.specs.declared.expression.Expr.{Expr}
use Rattle.hs_values.specs.Outcome.{Gives}
use Rattle.hs_dml.specs.Rows as spec
use Rattle.hs_dml.proofs.chosen.numbers_for.Goals as goal

pub returns-in-Some : goal.returns-in-Some
returns-in-Some g c =
    let rows = g.B.RowsBefore.maps c.args.before.now c.args.table.0 in
    let evaluate = g.E.Evaluates.evaluate c.args.evaluator.now in
    subst (λ (o : Option Expr). Gives {A = List RowNo} c.ended.result (spec.numbers_for evaluate o rows)) (sym c.in-Some.is)
    (c.ended.ensures (spec.numbers_for evaluate (Some c.in-Some.e) rows) c.chosen_for.ensures)

pub returns-in-None : goal.returns-in-None
returns-in-None g c =
    let rows = g.B.RowsBefore.maps c.args.before.now c.args.table.0 in
    let evaluate = g.E.Evaluates.evaluate c.args.evaluator.now in
    subst (λ (o : Option Expr). Gives {A = List RowNo} c.told.result (spec.numbers_for evaluate o rows)) (sym c.in-None.is)
    (c.told.ensures (map spec.number_of (entries rows)) c.all_rows.ensures)
