use Rattle.std.proofs.Common.{◌≡◌, map, take}
use Rattle.hs_footprint.specs.Touched.{named_value}
use Rattle.hs_footprint.proofs.parents.named_values.Given as goal

abbrev pub invariant-loop-column : goal.invariant-loop-column
invariant-loop-column l = l.values.items ≡ map (named_value l.key l.row) (take l.column-index l.columns)
