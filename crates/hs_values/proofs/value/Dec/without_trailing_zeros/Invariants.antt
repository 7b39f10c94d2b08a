use Rattle.std.proofs.Common.{◌≡◌}
use Rattle.hs_values.specs.Key.{without_zeros}
use Rattle.hs_values.proofs.value.Dec.without_trailing_zeros.Given as goal

abbrev pub invariant-loop-shorter : goal.invariant-loop-shorter
invariant-loop-shorter l = without_zeros l.short.units l.short.scale ≡ without_zeros l.fn.self.units l.fn.self.scale

abbrev pub decreases-loop-shorter : goal.decreases-loop-shorter
decreases-loop-shorter l = l.short.scale
