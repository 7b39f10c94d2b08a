use Rattle.hs_turns.specs.Definitions.{lengthened}
use Rattle.hs_redefining.proofs.Mixed.{longer_within}
use Rattle.hs_redefining.proofs.Partly.{partly_all, partly_lengthened, partly_none}
use Rattle.hs_redefining.proofs.remaking.lengthen.Goals as goal

pub loop-row-init : goal.loop-row-init
loop-row-init c = λ maps are. partly_none c.args.table.0 (lengthened c.args.value.now (maps c.args.table.0)) maps c.args.rows.now are

pub loop-row-preserved : goal.loop-row-preserved
loop-row-preserved c = λ maps are.
    partly_lengthened c.args.table.0 maps c.loop-row.rows c.args.value.now c.loop-row.last c.in-Some.row c.lengthen_row.new.rows c.in-Some.ensures.row c.in_ok-lengthen_row.ensures (c.loop-row.invariant maps are)

pub returns : goal.returns
returns c = λ maps are.
    partly_all c.args.table.0 maps c.loop-row.rows (lengthened c.args.value.now (maps c.args.table.0)) c.loop-row.last (longer_within c.args.value.now (maps c.args.table.0)) c.in_default.ensures.row
    (c.loop-row.invariant maps are)
