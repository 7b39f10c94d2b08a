use Rattle.hs_workload.specs.Generator.{autocommit_line}
use Rattle.hs_workload.proofs.Lines.{written_more, line_of}
use Rattle.hs_workload.proofs.generated.push_autocommits.Goals as goal

pub loop-session-preserved : goal.loop-session-preserved
loop-session-preserved c =
    written_more autocommit_line c.loop-session.session c.args.out.now c.loop-session.out _ c.loop-session.invariant
    (line_of _ _ _ _ _ _ _ c.in_ok-extend.ensures.ok c.in_ok-push_number.ensures c.in_ok-extend-2.ensures.ok)
