use Rattle.std.proofs.Common.{All, take}
use Rattle.hs_knowntext.specs.Known.{IsKnownChange}
use Rattle.hs_knowntext.proofs.known.are_known.Given as goal

abbrev pub invariant-loop-change : goal.invariant-loop-change
invariant-loop-change l = All (IsKnownChange l.catalog) (take l.change-index l.changes)
