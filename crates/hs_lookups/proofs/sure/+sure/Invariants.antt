use Rattle.std.proofs.Common.{drop}
use Rattle.hs_lookups.specs.Sure.{AreSure}
use Rattle.hs_lookups.proofs.sure.+sure.Given as goal

abbrev pub invariant-are_sure-loop-item : goal.invariant-are_sure-loop-item
invariant-are_sure-loop-item l = AreSure (drop l.item-index l.list) → AreSure l.list
