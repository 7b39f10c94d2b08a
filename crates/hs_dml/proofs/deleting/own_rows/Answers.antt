use Rattle.std.proofs.Common.{fold, Ok, None, ap, ◌∙◌}
use Rattle.std.proofs.lemmas.Result.{IfOk-weaker}
use Rattle.hs_dml.specs.Rows.{edited_by, edited_by_delete, name_of, none_edited, with_edit}
use Rattle.hs_dml.specs.Told.{around_of}
use Rattle.hs_dml.proofs.Edits.{delete_failed, deleted_told}
use Rattle.hs_dml.proofs.deleting.own_rows.Goals as goal

pub returns-in-Err : goal.returns-in-Err
returns-in-Err g c = λ things answer keys.
    let around = around_of things (g.E.Evaluates.evaluate c.args.evaluator.now) answer keys (g.B.RowsBefore.maps c.args.before.now) in
    (λ some. delete_failed around c.args.delete.now _ (c.in-Err.ensures some))

pub returns-in-Ok : goal.returns-in-Ok
returns-in-Ok g c = λ things answer keys.
    let delete = c.args.delete.now in
    let around = around_of things (g.E.Evaluates.evaluate c.args.evaluator.now) answer keys (g.B.RowsBefore.maps c.args.before.now) in
    c.ended.ensures (edited_by_delete around delete)
    (IfOk-weaker c.deleted.result _ _
    (λ made is. deleted_told around delete _ (edited_by made) c.in-Ok.ensures
    (is ∙ ap (fold (λ so_far row. with_edit so_far (name_of delete.table row) (Ok None)) none_edited) c.as_slice.ensures))
    c.deleted.ensures)
