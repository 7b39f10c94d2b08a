use Rattle.std.proofs.Common.{◌≡◌, take}
use Rattle.hs_meaning.specs.Queries.{outputs}
use Rattle.hs_columns.proofs.kinds.outputs_of.Given as goal

abbrev pub invariant-loop-column : goal.invariant-loop-column
invariant-loop-column l = l.made ≡ outputs (take l.column-index l.columns)
