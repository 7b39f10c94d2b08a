use Rattle.std.proofs.Common.{set, ◌-◌}
use Rattle.hs_waits.proofs.Ways.{fewer_no_cycle, set_none}
use Rattle.hs_waits.proofs.wait_graph.WaitGraph.answer.Goals as goal

pub invariant_of-self : goal.invariant_of-self
invariant_of-self c = let old = c.self.inside.waits in fewer_no_cycle old (set old (c.args.session.0 - 1) 0) (set_none old c.args.session.0 c.requires) c.self.invariant
