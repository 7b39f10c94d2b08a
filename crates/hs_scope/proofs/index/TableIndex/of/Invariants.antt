use Rattle.std.proofs.Common.{◌≡◌, ◌+◌, length, take, drop}
use Rattle.hs_scope.specs.Index.{IsIndexOf}
use Rattle.hs_scope.specs.Names.{offers}
use Rattle.hs_scope.proofs.index.TableIndex.of.Given as goal

abbrev pub invariant-loop-table : goal.invariant-loop-table
invariant-loop-table l = record {
  index : IsIndexOf l.made.names.names.entries l.made.by_table.entries (take l.table-index l.tables);
  first : l.first ≡ length (offers (take l.table-index l.tables));
  rest : l.first + length (offers (drop l.table-index l.tables)) ≡ length (offers l.tables);
}
