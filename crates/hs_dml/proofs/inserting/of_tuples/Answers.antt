use Rattle.std.proofs.Common.{List, fold, ap, ◌∙◌}
use Rattle.hs_plan.specs.declared.plan.NewValue.{NewValue}
use Rattle.hs_tentative.specs.NewRows.{inserted}
use Rattle.hs_dml.specs.declared.inserting.Inserting.{Inserting}
use Rattle.hs_dml.specs.Rows.{with_row}
use Rattle.hs_dml.proofs.Inserts.{inserted_told}
use Rattle.hs_dml.proofs.inserting.of_tuples.Goals as goal

pub returns : goal.returns
returns g c =
    let table = c.args.table in
    let made = inserted (g.E.Evaluates.evaluate c.args.evaluator.now) c.args.columns.now c.args.places.now in
    let one : Inserting → List NewValue → Inserting = λ so_far tuple. with_row table so_far (made tuple) in
    inserted_told table made c.args.tuples.now c.insert_tuples.new.inserting (c.in_ok-insert_tuples.ensures ∙ ap (λ (begun : Inserting). fold one begun c.args.tuples.now) c.new-inserting.ensures)
