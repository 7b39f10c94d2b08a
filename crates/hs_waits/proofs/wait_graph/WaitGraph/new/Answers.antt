use Rattle.hs_waits.proofs.Ways.{zeros_none, zeros_no_cycle}
use Rattle.hs_waits.proofs.wait_graph.WaitGraph.new.Goals as goal

pub invariant_of-result : goal.invariant_of-result
invariant_of-result c = zeros_no_cycle

pub returns : goal.returns
returns c = zeros_none
