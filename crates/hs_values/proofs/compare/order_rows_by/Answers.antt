use Rattle.std.proofs.Common.{sym, ◌∙◌}
use Rattle.hs_values.proofs.KeyedRows.{keyed_done}
use Rattle.hs_values.proofs.compare.order_rows_by.Goals as goal

pub returns : goal.returns
returns c =
    c.order_rows.ensures
    ∙ sym (keyed_done c.args.descending.now c.args.a.now c.args.b.now c.loop-i.i c.min-keys.result c.min.result c.min.ensures c.min-keys.ensures c.loop-i.auto.i-end c.loop-i-test.false)
    ∙ sym c.loop-i.invariant
