use Rattle.std.proofs.Common.{◌≡◌, length}
use Rattle.hs_builder.specs.Leaves.{scale_of}
use Rattle.hs_builder.proofs.leaves.scale_of.Given as goal

abbrev pub invariant-loop-first : goal.invariant-loop-first
invariant-loop-first l = scale_of l.rest ≡ scale_of l.digits

abbrev pub decreases-loop-first : goal.decreases-loop-first
decreases-loop-first l = length l.rest
