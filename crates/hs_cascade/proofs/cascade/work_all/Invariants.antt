use Rattle.std.proofs.Common.{◌≡◌}
use Rattle.hs_actions.specs.Work.{worked}
use Rattle.hs_acting.specs.Kept.{keys_in}
use Rattle.hs_cascade.specs.Working.{work_of}
use Rattle.hs_cascade.proofs.Turns.{turns}
use Rattle.hs_cascade.proofs.cascade.work_all.Given as goal

abbrev pub invariant-loop-name : goal.invariant-loop-name
invariant-loop-name g l =
    let maps = g.B.RowsBefore.maps l.before in
    worked maps (keys_in l.keys) (work_of l.work) ≡ worked maps (keys_in l.keys) (work_of l.fn.work)

abbrev pub decreases-loop-name : goal.decreases-loop-name
decreases-loop-name g l = turns (g.B.RowsBefore.maps l.before) (keys_in l.keys) (work_of l.work)
