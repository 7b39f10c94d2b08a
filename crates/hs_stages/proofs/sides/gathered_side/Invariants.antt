use Rattle.std.proofs.Common.{◌≡◌, fold, map}
use Rattle.hs_answer.specs.Bodies.{widened}
use Rattle.hs_stages.specs.Gathering.{nothing, with_outcome}
use Rattle.hs_stages.proofs.sides.gathered_side.Given as goal

abbrev pub invariant-loop-row : goal.invariant-loop-row
invariant-loop-row l = l.so_far ≡ fold with_outcome nothing (map (widened l.kinds) l.yielded)
