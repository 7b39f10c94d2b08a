use Rattle.std.proofs.Common.{◌≡◌, map, take}
use Rattle.hs_clauses.specs.Forms.{column_above}
use Rattle.hs_clauses.proofs.values.columns_over.Given as goal

abbrev pub invariant-loop-value : goal.invariant-loop-value
invariant-loop-value l = l.made.items ≡ map column_above (take l.value-index l.values)
