use Rattle.std.proofs.Common.{sym, ◌∙◌}
use Rattle.std.proofs.lemmas.Result.{on_ok_weaker}
use Rattle.hs_index.proofs.Gaps.{put_found, put_gap}
use Rattle.hs_index.proofs.row_set.RowSet.put.Goals as goal

pub returns-in-Ok-clause-ok : goal.returns-in-Ok-clause-ok
returns-in-Ok-clause-ok c = sym (put_found c.args.self.now c.as_slice.result.now c.args.row c.in-Ok.field-0 c.as_slice.ensures c.requires (c.in-Ok.ensures.bound, c.in-Ok.ensures.ok))

pub returns-in-Err-clause-ok : goal.returns-in-Err-clause-ok
returns-in-Err-clause-ok c =
    let gap = put_gap c.args.self.now c.as_slice.result.now c.args.row c.in-Err.at c.as_slice.ensures c.requires (c.in-Err.ensures.bound, c.in-Err.ensures.position) in
    on_ok_weaker c.insert_at.result (λ is. is ∙ sym gap) c.insert_at.ensures.ok
