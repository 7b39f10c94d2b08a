use Rattle.std.proofs.Common.{◌≡◌, drop}
use Rattle.hs_typed.specs.Faults.{noted}
use Rattle.hs_writing.specs.Values.{misfits}
use Rattle.hs_writing.proofs.source.note_misfits.Given as goal

abbrev pub invariant-loop-i : goal.invariant-loop-i
invariant-loop-i l = noted l.faults (misfits (drop l.i l.columns) (drop l.i l.given)) ≡ noted l.fn.faults (misfits l.columns l.given)
