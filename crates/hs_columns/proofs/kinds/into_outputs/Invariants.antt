use Rattle.std.proofs.Common.{◌≡◌}
use Rattle.hs_meaning.specs.Queries.{outputs}
use Rattle.hs_columns.proofs.kinds.into_outputs.Given as goal

abbrev pub invariant-loop-column : goal.invariant-loop-column
invariant-loop-column l = l.made ≡ outputs l.yielded
