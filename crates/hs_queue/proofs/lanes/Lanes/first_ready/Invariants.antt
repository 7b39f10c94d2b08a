use Rattle.hs_queue.specs.Earliest.{IsLeast, ready_ticket}
use Rattle.hs_queue.proofs.lanes.Lanes.first_ready.Given as goal

abbrev pub invariant-loop-at : goal.invariant-loop-at
invariant-loop-at l = IsLeast (ready_ticket l.waiters l.self) l.at l.best
