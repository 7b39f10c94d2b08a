use Rattle.std.proofs.Common.{◌≡◌, map}
use Rattle.hs_typed.specs.Rules.{arm_of}
use Rattle.hs_typed.proofs.lists.case_arms.Given as goal

abbrev pub invariant-loop-arm : goal.invariant-loop-arm
invariant-loop-arm l = l.trees ≡ map arm_of l.yielded
