use Rattle.std.proofs.Common.{sym, ◌∙◌}
use Rattle.hs_index.proofs.Gaps.{taken_found, taken_gap}
use Rattle.hs_index.proofs.row_set.RowSet.take.Goals as goal

pub returns-in-Ok : goal.returns-in-Ok
returns-in-Ok c = c.remove_at.ensures ∙ sym (taken_found c.args.self.now c.as_slice.result.now c.args.row c.in-Ok.at c.as_slice.ensures c.requires (c.in-Ok.ensures.bound, c.in-Ok.ensures.ok))

pub returns-in-Err : goal.returns-in-Err
returns-in-Err c = sym (taken_gap c.args.self.now c.as_slice.result.now c.args.row c.in-Err.field-0 c.as_slice.ensures c.requires (c.in-Err.ensures.bound, c.in-Err.ensures.position))
