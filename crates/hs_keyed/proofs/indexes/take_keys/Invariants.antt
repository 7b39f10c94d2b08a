use Rattle.std.proofs.Common.{◌≡◌, Some, vec_len}
use Rattle.std.specs.FinMap.{get, remove}
use Rattle.hs_index.specs.Table.{Rows}
use Rattle.hs_keyed.specs.Kept.{IsOf, AreOf}
use Rattle.hs_keyed.proofs.Halves.{Half}
use Rattle.hs_keyed.proofs.indexes.take_keys.Given as goal

abbrev pub invariant-loop-i : goal.invariant-loop-i
invariant-loop-i l = record {
  long : vec_len l.indexes ≡ l.i-end;
  half : (rows : Rows) → get rows l.row.0 ≡ Some l.values → AreOf rows l.fn.indexes.items → Half (IsOf (remove rows l.row.0)) (IsOf rows) l.i l.indexes.items;
}
