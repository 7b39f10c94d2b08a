use Rattle.std.proofs.Common.{◌≡◌, ◌++◌, map, drop}
use Rattle.hs_plan.specs.Named.{concat, named_in_assignment}
use Rattle.hs_plan.proofs.named.in_assignments.Given as goal

abbrev pub invariant-loop-one : goal.invariant-loop-one
invariant-loop-one l = l.out ++ concat (map named_in_assignment (drop l.one-index l.all)) ≡ l.fn.out ++ concat (map named_in_assignment l.all)
