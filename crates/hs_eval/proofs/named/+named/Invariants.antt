use Rattle.std.proofs.Common.{◌≡◌, ◌++◌, map, drop}
use Rattle.hs_plan.specs.Named.{concat, named, named_in_item, named_in_arm}
use Rattle.hs_eval.proofs.named.+named.Given as goal

abbrev pub invariant-in_expressions-loop-e : goal.invariant-in_expressions-loop-e
invariant-in_expressions-loop-e l = l.out ++ concat (map named (drop l.e-index l.all)) ≡ l.fn.out ++ concat (map named l.all)

abbrev pub invariant-in_list-loop-one : goal.invariant-in_list-loop-one
invariant-in_list-loop-one l = l.out ++ concat (map named_in_item (drop l.one-index l.all)) ≡ l.fn.out ++ concat (map named_in_item l.all)

abbrev pub invariant-in_arms-loop-arm : goal.invariant-in_arms-loop-arm
invariant-in_arms-loop-arm l = l.out ++ concat (map named_in_arm (drop l.arm-index l.arms)) ≡ l.fn.out ++ concat (map named_in_arm l.arms)
