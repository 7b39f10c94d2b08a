use Rattle.std.proofs.Common.{◌≡◌, ◌++◌, drop}
use Rattle.hs_outlines.specs.Outline.{keys_of}
use Rattle.hs_outlines.proofs.keys.keys_of.Given as goal

abbrev pub invariant-loop-constraint : goal.invariant-loop-constraint
invariant-loop-constraint l = l.keys ++ keys_of (drop l.constraint-index l.constraints) ≡ keys_of l.constraints
