use Rattle.std.proofs.Common.{arith}
use Rattle.hs_applicable.proofs.Differing.{behind_first, differ_off, differ_on}
use Rattle.hs_applicable.proofs.columns.+differ.Goals as goal

pub returns-then-not-has_column : goal.returns-then-not-has_column
returns-then-not-has_column t c =
    differ_on c.args.columns.now _ c.first-item.result c.has_column.result (behind_first c.args.columns.now _ (omega arith)) c.in-len1-up.len_at_least c.first-item.is c.has_column.ensures c.if-not-has_column.true
    c.differ.result c.differ.ensures

pub returns-else-not-has_column : goal.returns-else-not-has_column
returns-else-not-has_column t c =
    differ_off c.args.columns.now _ c.first-item.result c.has_column.result (behind_first c.args.columns.now _ (omega arith)) c.in-len1-up.len_at_least c.first-item.is c.has_column.ensures c.if-not-has_column.false
