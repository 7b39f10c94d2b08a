use Rattle.std.proofs.Common.{◌≡◌, fold, drop, None, Ok}
use Rattle.hs_base.specs.declared.numbers.RowNo.{RowNo}
use Rattle.hs_dml.specs.Rows.{Edited, edited_by, name_of, with_edit}
use Rattle.hs_dml.proofs.deleting.delete_all.Given as goal

abbrev pub invariant-loop-row : goal.invariant-loop-row
invariant-loop-row l =
    let one : Edited → RowNo → Edited = λ so_far row. with_edit so_far (name_of l.table row) (Ok None) in
    fold one (edited_by l.editing) (drop l.row-index l.rows) ≡ fold one (edited_by l.fn.editing) l.rows
