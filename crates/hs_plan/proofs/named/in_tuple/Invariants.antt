use Rattle.std.proofs.Common.{◌≡◌, ◌++◌, map, drop}
use Rattle.hs_plan.specs.Named.{concat, named_in_value}
use Rattle.hs_plan.proofs.named.in_tuple.Given as goal

abbrev pub invariant-loop-value : goal.invariant-loop-value
invariant-loop-value l = l.out ++ concat (map named_in_value (drop l.value-index l.values)) ≡ l.fn.out ++ concat (map named_in_value l.values)
