use Rattle.std.proofs.Common.{◌≡◌, ◌+◌, drop}
use Rattle.hs_scope.specs.Index.{kept_at}
use Rattle.hs_scope.specs.Names.{Text}
use Rattle.hs_scope.specs.Sought.{both, columns_from}
use Rattle.hs_scope.proofs.index.ColumnIndex.add_columns.Given as goal

abbrev pub invariant-loop-column : goal.invariant-loop-column
invariant-loop-column l = record {
  kept : (n : Text) → both (kept_at l.self.names.entries n) (columns_from l.at n (drop l.column-index l.columns)) ≡ both (kept_at l.fn.self.names.entries n) (columns_from l.fn.first n l.columns);
  place : l.at ≡ l.fn.first + l.column-index;
}
