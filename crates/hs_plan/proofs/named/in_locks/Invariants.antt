use Rattle.std.proofs.Common.{◌≡◌, ◌++◌, map, drop}
use Rattle.hs_plan.specs.Named.{concat, read_by_lock}
use Rattle.hs_plan.proofs.named.in_locks.Given as goal

abbrev pub invariant-loop-one : goal.invariant-loop-one
invariant-loop-one l = l.out ++ concat (map read_by_lock (drop l.one-index l.all)) ≡ l.fn.out ++ concat (map read_by_lock l.all)
