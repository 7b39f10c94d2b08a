use Rattle.std.proofs.Common.{◌≡◌, ◌++◌, drop}
use Rattle.hs_outlines.specs.Outline.{keys_in_column}
use Rattle.hs_outlines.proofs.keys.add_by_columns.Given as goal

abbrev pub invariant-loop-constraint : goal.invariant-loop-constraint
invariant-loop-constraint l = l.keys ++ keys_in_column l.names l.name (drop l.constraint-index l.constraints) ≡ l.fn.keys ++ keys_in_column l.names l.name l.constraints
