use Rattle.std.proofs.Common.{◌≤◌, ◌-◌, ℕ, length}
use Rattle.hs_queue.specs.Lanes.{Grows}
use Rattle.hs_queue.proofs.lanes.Lanes.grow.Given as goal

abbrev pub invariant-loop-alloc : goal.invariant-loop-alloc
invariant-loop-alloc l = record {
  grows : Grows l.fn.self l.self;
  few : (n : ℕ) → length l.fn.self ≤ n → l.len ≤ n → length l.self ≤ n;
}

abbrev pub decreases-loop-alloc : goal.decreases-loop-alloc
decreases-loop-alloc l = l.len - length l.self
