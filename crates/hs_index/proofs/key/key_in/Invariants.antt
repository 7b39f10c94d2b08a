use Rattle.std.proofs.Common.{◌≡◌, map, take}
use Rattle.hs_index.specs.Keys.{value_at}
use Rattle.hs_index.proofs.key.key_in.Given as goal

abbrev pub invariant-loop-column : goal.invariant-loop-column
invariant-loop-column l = l.values.items ≡ map (value_at l.row) (take l.column-index l.columns)
