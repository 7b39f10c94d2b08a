use Rattle.std.proofs.Common.{◌+◌, drop, sym, ◌∙◌}
use Rattle.hs_scope.proofs.Seeking.{item}
use Rattle.hs_columns.proofs.Unknown.{unknown_here}
use Rattle.hs_columns.proofs.kinds.kinds_of.Goals as goal

pub returns-in-None : goal.returns-in-None
returns-in-None c =
    let columns = c.args.columns.now in
    let i = c.loop-column.column-index in
    sym (unknown_here c.loop-column.kinds (drop i columns) (drop (i + 1) columns) c.column-item.result (item columns i c.column-item.result c.loop-column-test.true c.column-item.is) c.in-None.is)
    ∙ c.loop-column.invariant
