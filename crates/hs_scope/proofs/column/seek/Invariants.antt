use Rattle.std.proofs.Common.{◌≡◌, ◌+◌, drop}
use Rattle.hs_scope.specs.Sought.{both, columns_from}
use Rattle.hs_scope.proofs.column.seek.Given as goal

abbrev pub invariant-loop-column : goal.invariant-loop-column
invariant-loop-column l = record {
  found : both l.found (columns_from l.at l.name (drop l.column-index l.columns)) ≡ columns_from l.fn.first l.name l.columns;
  place : l.at ≡ l.fn.first + l.column-index;
}
