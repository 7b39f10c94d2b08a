use Rattle.std.proofs.Common.{◌≡◌, map, drop}
use Rattle.hs_typed.specs.Rules.{widest_of, widest_with}
use Rattle.hs_typed.proofs.lists.widest_of_arms.Given as goal

abbrev pub invariant-loop-arm : goal.invariant-loop-arm
invariant-loop-arm l = widest_with l.kind (map (λ arm. arm.value.kind) (drop l.arm-index l.arms)) ≡ widest_of (map (λ arm. arm.value.kind) l.arms)
