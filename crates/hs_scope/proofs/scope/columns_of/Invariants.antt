use Rattle.std.proofs.Common.{◌≡◌, take}
use Rattle.hs_scope.specs.Names.{every_column}
use Rattle.hs_scope.proofs.scope.columns_of.Given as goal

abbrev pub invariant-loop-table : goal.invariant-loop-table
invariant-loop-table l = l.all ≡ every_column (take l.table-index l.tables)
