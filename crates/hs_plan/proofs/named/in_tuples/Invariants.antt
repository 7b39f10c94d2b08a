use Rattle.std.proofs.Common.{◌≡◌, ◌++◌, map, drop}
use Rattle.hs_plan.specs.Named.{concat, named_in_tuple}
use Rattle.hs_plan.proofs.named.in_tuples.Given as goal

abbrev pub invariant-loop-tuple : goal.invariant-loop-tuple
invariant-loop-tuple l = l.out ++ concat (map named_in_tuple (drop l.tuple-index l.tuples)) ≡ l.fn.out ++ concat (map named_in_tuple l.tuples)
