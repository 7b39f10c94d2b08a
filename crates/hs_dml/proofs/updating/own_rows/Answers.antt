use Rattle.std.proofs.Common.{fold, Ok, Some, ◌∙◌}
use Rattle.std.proofs.lemmas.Result.{IfOk-weaker}
use Rattle.hs_values.specs.Outcome.{◌>>=◌}
use Rattle.hs_tentative.specs.NewRows.{updated}
use Rattle.hs_dml.specs.Rows.{edited_at, edited_by, edited_by_update, none_edited}
use Rattle.hs_dml.specs.Told.{around_of}
use Rattle.hs_dml.proofs.Edits.{update_failed, updated_told}
use Rattle.hs_dml.proofs.updating.own_rows.Goals as goal

pub returns-in-Err : goal.returns-in-Err
returns-in-Err g c = λ answer keys.
    let around = around_of c.args.cat.now (g.E.Evaluates.evaluate c.args.evaluator.now) answer keys (g.B.RowsBefore.maps c.args.before.now) in
    (λ some. update_failed around c.args.update.now _ (c.in-Err.ensures some))

pub returns-in-Ok : goal.returns-in-Ok
returns-in-Ok g c = λ answer keys.
    let update = c.args.update.now in
    let evaluate = g.E.Evaluates.evaluate c.args.evaluator.now in
    let before = g.B.RowsBefore.maps c.args.before.now in
    let around = around_of c.args.cat.now evaluate answer keys before in
    c.ended.ensures (edited_by_update around update)
    (IfOk-weaker c.edited.result _ _
    (λ made is. updated_told around update _ (edited_by made) c.in-Ok.ensures
    (is ∙ (λ i. fold (edited_at (λ old. updated evaluate (c.columns_of-columns.ensures i) update.assignments old >>= λ made. Ok (Some made)) update.table (before update.table.0)) none_edited (c.as_slice.ensures i))))
    c.edited.ensures)
