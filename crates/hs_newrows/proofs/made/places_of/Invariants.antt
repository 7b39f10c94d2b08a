use Rattle.std.proofs.Common.{◌≡◌, map, take}
use Rattle.hs_newrows.proofs.made.places_of.Given as goal

abbrev pub invariant-loop-assignment : goal.invariant-loop-assignment
invariant-loop-assignment l = l.places.items ≡ map (λ a. a.column) (take l.assignment-index l.assignments)
