use Rattle.std.proofs.Common.{◌≡◌, ◌++◌, take, drop}
use Rattle.hs_meaning.specs.Queries.{paired}
use Rattle.hs_columns.proofs.pairing.pair_each.Given as goal

abbrev pub invariant-loop-i : goal.invariant-loop-i
invariant-loop-i l = take l.i l.above ++ paired (drop l.i l.above) (drop l.i l.below) ≡ paired l.fn.above l.below
