use Rattle.std.proofs.Common.{◌≡◌, false, map, take}
use Rattle.hs_index.specs.Keys.{has_null, value_at}
use Rattle.hs_index.proofs.key.has_gap.Given as goal

abbrev pub invariant-loop-column : goal.invariant-loop-column
invariant-loop-column l = has_null (map (value_at l.row) (take l.column-index l.columns)) ≡ false
