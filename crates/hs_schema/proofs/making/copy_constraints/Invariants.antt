use Rattle.std.proofs.Common.{◌≡◌, take}
use Rattle.hs_schema.proofs.making.copy_constraints.Given as goal

abbrev pub invariant-loop-constraint : goal.invariant-loop-constraint
invariant-loop-constraint l = l.copied ≡ take l.constraint-index l.constraints
