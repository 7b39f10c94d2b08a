use Rattle.hs_workload.specs.Generator.{insert_line}
use Rattle.hs_workload.proofs.Lines.{written_more, line_of}
use Rattle.hs_workload.proofs.generated.push_inserts.Goals as goal

pub loop-i-preserved : goal.loop-i-preserved
loop-i-preserved c =
    written_more insert_line c.loop-i.i c.args.out.now c.loop-i.out _ c.loop-i.invariant
    (line_of _ _ _ _ _ _ _ c.in_ok-extend.ensures.ok c.in_ok-push_number.ensures c.in_ok-extend-2.ensures.ok)
