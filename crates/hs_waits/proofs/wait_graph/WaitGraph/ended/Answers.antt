use Rattle.std.proofs.Common.{◌≤◌, ◌==◌, not, sym, ◌∙◌, arith}
use Rattle.hs_claims.specs.Blockers.{has}
use Rattle.hs_waits.specs.Waits.{waits_of}
use Rattle.hs_waits.proofs.Ways.{fewer_no_cycle, and_back}
use Rattle.hs_waits.proofs.wait_graph.WaitGraph.ended.Goals as goal

pub invariant_of-self : goal.invariant_of-self
invariant_of-self c =
    let old = c.self.inside.waits in
    fewer_no_cycle old c.loop-i.self-inside.waits
    (λ a b edge.
    let far : a ≤ c.loop-i.i = omega (arith, edge.0.1) in
    (edge.0, edge.1, and_back (not (b == c.args.session.0)) (has (waits_of old a) b) (sym (c.loop-i.invariant.before a b edge.0 edge.1 far) ∙ edge.2)))
    c.self.invariant
