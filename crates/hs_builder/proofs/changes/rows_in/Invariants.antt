use Rattle.std.proofs.Common.{◌≡◌, take}
use Rattle.hs_builder.specs.Changes.{rows_in}
use Rattle.hs_builder.proofs.changes.rows_in.Given as goal

abbrev pub invariant-loop-tuple : goal.invariant-loop-tuple
invariant-loop-tuple l = l.rows ≡ rows_in (take l.tuple-index l.tuples)
