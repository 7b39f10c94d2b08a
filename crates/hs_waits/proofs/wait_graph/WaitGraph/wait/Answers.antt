use Rattle.std.proofs.Common.{◌-◌, set, None, sym, subst}
use Rattle.hs_waits.specs.Waits.{Waits, IsFirstLeading}
use Rattle.hs_waits.proofs.Ways.{still_no_cycle, set_changes}
use Rattle.hs_waits.proofs.wait_graph.WaitGraph.wait.Goals as goal

pub invariant_of-self : goal.invariant_of-self
invariant_of-self c =
    let old = c.self.inside.waits in
    let s = c.args.session.0 in
    let free = subst (λ (w : Waits). IsFirstLeading w s c.args.blockers None) (sym c.self.view_is) c.requires.no_cycle in
    still_no_cycle old (set old (s - 1) c.args.blockers.0) s c.args.blockers (set_changes old s c.args.blockers c.requires.session) c.self.invariant free
