use Rattle.std.proofs.Common.{◌≡◌, map, take}
use Rattle.hs_scope.specs.Names.{column_of}
use Rattle.hs_scope.proofs.column.columns_of.Given as goal

abbrev pub invariant-loop-column : goal.invariant-loop-column
invariant-loop-column l = l.made ≡ map column_of (take l.column-index l.columns)
