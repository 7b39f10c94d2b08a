use Rattle.std.proofs.Common.{◌≡◌, map, take}
use Rattle.hs_references.specs.Referenced.{type_of}
use Rattle.hs_references.proofs.columns.types_of.Given as goal

abbrev pub invariant-loop-place : goal.invariant-loop-place
invariant-loop-place l = l.types.items ≡ map (type_of l.columns) (take l.place-index l.places)
