use Rattle.std.proofs.Common.{arith}
use Rattle.hs_rowlimit.proofs.Lengths.{column_more, columns_ended, row_ended}
use Rattle.hs_rowlimit.proofs.long_rows.row_len.Goals as goal

pub loop-i-preserved : goal.loop-i-preserved
loop-i-preserved c =
    column_more c.args.columns.now c.args.row.now c.loop-i.i c.index-columns-i.result c.index-row-i.result c.loop-i.len c.value_len.result _ c.saturating_add-len.result (omega arith) (omega arith) c.index-row-i.is
    c.value_len.ensures c.saturating_add-len.ensures c.loop-i.invariant

pub returns : goal.returns
returns c = columns_ended c.args.columns.now c.args.row.now c.loop-i.i c.loop-i.len _ (omega arith) c.loop-i.invariant

pub returns-then-i-row : goal.returns-then-i-row
returns-then-i-row c = row_ended c.args.columns.now c.args.row.now c.loop-i.i c.loop-i.len _ (omega arith) c.loop-i.invariant
