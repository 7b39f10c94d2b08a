use Rattle.std.proofs.Common.{◌≡◌, take}
use Rattle.hs_entering.proofs.columns.with_column.Given as goal

abbrev pub invariant-loop-one : goal.invariant-loop-one
invariant-loop-one l = l.copied ≡ take l.one-index l.columns
