use Rattle.std.specs.FinMap.{empty}
use Rattle.hs_redefining.proofs.Mixed.{none_within}
use Rattle.hs_redefining.proofs.Partly.{partly_all, partly_cleared, partly_none}
use Rattle.hs_redefining.proofs.remaking.clear.Goals as goal

pub loop-row-init : goal.loop-row-init
loop-row-init c = λ maps are. partly_none c.args.table.0 empty maps c.args.rows.now are

pub loop-row-preserved : goal.loop-row-preserved
loop-row-preserved c = λ maps are.
    partly_cleared c.args.table.0 maps c.loop-row.rows c.loop-row.last c.in-Some.row c.set.new.self c.in-Some.ensures.row c.in_ok-set.ensures.rows (c.loop-row.invariant maps are)

pub returns : goal.returns
returns c = λ maps are.
    partly_all c.args.table.0 maps c.loop-row.rows empty c.loop-row.last (none_within (maps c.args.table.0)) c.in_default.ensures.row (c.loop-row.invariant maps are)
