use Rattle.std.proofs.Common.{◌≡◌, fold, drop}
use Rattle.hs_dml.specs.Rows.{judged_at}
use Rattle.hs_dml.proofs.chosen.judge_all.Given as goal

abbrev pub invariant-loop-row : goal.invariant-loop-row
invariant-loop-row g l =
    let one = judged_at (g.B.RowsBefore.maps l.before l.table.0) (g.E.Evaluates.evaluate l.evaluator l.condition) in
    fold one l.chosen (drop l.row-index l.rows) ≡ fold one l.fn.chosen l.rows
