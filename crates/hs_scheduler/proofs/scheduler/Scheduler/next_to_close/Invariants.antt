use Rattle.std.proofs.Common.{◌≡◌, ◌≤◌, ◌<◌, ℕ, false}
use Rattle.hs_scheduler.specs.Closing.{closes_in}
use Rattle.hs_scheduler.proofs.scheduler.Scheduler.next_to_close.Given as goal

abbrev pub invariant-loop-s : goal.invariant-loop-s
invariant-loop-s g l = record {
  low : 1 ≤ l.s;
  none : (k : ℕ) → 1 ≤ k → k < l.s → closes_in l.self.seen l.self.closed k ≡ false;
}
