use Rattle.std.proofs.Common.{fold, ◌∙◌}
use Rattle.hs_dml.specs.Rows.{judged_at}
use Rattle.hs_dml.proofs.Choosing.{chosen_told}
use Rattle.hs_dml.proofs.chosen.chosen_for.Goals as goal

pub returns : goal.returns
returns g c =
    let rows = g.B.RowsBefore.maps c.args.before.now c.args.table.0 in
    let evaluate = g.E.Evaluates.evaluate c.args.evaluator.now in
    chosen_told evaluate c.args.condition.now rows c.judge_all.new.chosen c.in_ok-rows.rows c.in_ok-rows.ensures
    (c.in_ok-judge_all.ensures ∙ (λ i. fold (judged_at rows (evaluate c.args.condition.now)) (c.new-made.ensures i) (c.as_slice.ensures i)))
