use Rattle.std.proofs.Common.{◌≡◌, ◌++◌, drop, map}
use Rattle.hs_outlines.specs.Named.{by_column}
use Rattle.hs_outlines.proofs.written.add_by_columns.Given as goal

abbrev pub invariant-loop-constraint : goal.invariant-loop-constraint
invariant-loop-constraint l = l.written ++ map by_column (drop l.constraint-index l.constraints) ≡ l.fn.written ++ map by_column l.constraints
