use Rattle.std.proofs.Common.{◌≡◌, drop}
use Rattle.hs_typed.specs.Faults.{noted}
use Rattle.hs_writing.specs.Values.{unpaired}
use Rattle.hs_writing.proofs.values.note_unpaired.Given as goal

abbrev pub invariant-loop-value : goal.invariant-loop-value
invariant-loop-value g l = noted l.faults (unpaired l.catalog l.scope (drop l.value-index l.values)) ≡ noted l.fn.faults (unpaired l.catalog l.scope l.values)
