use Rattle.std.proofs.Common.{◌≡◌, ◌++◌, drop, map}
use Rattle.std.specs.List.{enumerate_from}
use Rattle.hs_writing.specs.Targets.{all_places}
use Rattle.hs_writing.proofs.targets.all_places.Given as goal

abbrev pub invariant-loop-at : goal.invariant-loop-at
invariant-loop-at l = l.places ++ map (λ c. c.0) (enumerate_from l.at (drop l.at l.columns)) ≡ all_places l.columns
