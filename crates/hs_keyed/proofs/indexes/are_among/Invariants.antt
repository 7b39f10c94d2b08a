use Rattle.std.proofs.Common.{All, Contains, take}
use Rattle.hs_keyed.proofs.indexes.are_among.Given as goal

abbrev pub invariant-loop-column : goal.invariant-loop-column
invariant-loop-column l = All (Contains l.columns) (take l.column-index l.own)
