use Rattle.std.proofs.Common.{◌≡◌, drop}
use Rattle.hs_meaning.specs.Queries.{clashes}
use Rattle.hs_typed.specs.Faults.{noted}
use Rattle.hs_columns.proofs.pairing.note_clashes.Given as goal

abbrev pub invariant-loop-i : goal.invariant-loop-i
invariant-loop-i l = noted l.faults (clashes (drop l.i l.above) (drop l.i l.below)) ≡ noted l.fn.faults (clashes l.above l.below)
