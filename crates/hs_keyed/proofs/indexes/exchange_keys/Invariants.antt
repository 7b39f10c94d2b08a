use Rattle.std.proofs.Common.{◌≡◌, None, Some, vec_len}
use Rattle.std.specs.FinMap.{get, insert, remove}
use Rattle.hs_index.specs.Table.{Rows}
use Rattle.hs_keyed.specs.Kept.{IsOf, AreOf}
use Rattle.hs_keyed.proofs.Halves.{Half}
use Rattle.hs_keyed.proofs.indexes.exchange_keys.Given as goal

abbrev pub invariant-loop-i : goal.invariant-loop-i
invariant-loop-i l = record {
  long : vec_len l.indexes ≡ l.i-end;
  half : (rows : Rows) → get rows l.from.0 ≡ Some l.values → get (remove rows l.from.0) l.to.0 ≡ None → AreOf rows l.fn.indexes.items → Half (IsOf (insert (remove rows l.from.0) l.to.0 l.values)) (IsOf rows) l.i l.indexes.items;
}
