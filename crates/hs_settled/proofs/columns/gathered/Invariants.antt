use Rattle.std.proofs.Common.{◌≡◌, fold}
use Rattle.hs_stages.specs.Gathering.{nothing, with_outcome}
use Rattle.hs_settled.proofs.columns.gathered.Given as goal

abbrev pub invariant-loop-outcome : goal.invariant-loop-outcome
invariant-loop-outcome l = l.so_far ≡ fold with_outcome nothing l.yielded
