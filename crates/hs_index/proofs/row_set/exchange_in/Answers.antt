use Rattle.std.proofs.Common.{sym, ◌∙◌}
use Rattle.std.specs.List.{insert, remove}
use Rattle.hs_index.proofs.Gaps.{put_found, put_gap}
use Rattle.hs_index.proofs.row_set.exchange_in.Goals as goal

pub returns-in-Ok : goal.returns-in-Ok
returns-in-Ok c =
    c.remove-gone.ensures.items
    ∙ sym (put_found (remove c.args.rows.now.items c.args.at) c.as_slice.result.now c.args.row c.in-Ok.field-0 (c.as_slice.ensures.value ∙ c.remove-gone.ensures.items) c.requires.ascending (c.in-Ok.ensures.bound, c.in-Ok.ensures.ok))

pub returns-in-Err : goal.returns-in-Err
returns-in-Err c =
    c.insert_there.ensures
    ∙ (λ i. insert (c.remove-gone.ensures.items i) c.in-Err.gap c.args.row)
    ∙ sym (put_gap (remove c.args.rows.now.items c.args.at) c.as_slice.result.now c.args.row c.in-Err.gap (c.as_slice.ensures.value ∙ c.remove-gone.ensures.items) c.requires.ascending (c.in-Err.ensures.bound, c.in-Err.ensures.position))
