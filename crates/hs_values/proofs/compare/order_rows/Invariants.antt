use Rattle.std.proofs.Common.{◌≡◌, ◌+◌, length}
use Rattle.std.specs.Iterator.Adapters.{zip_first, zip_second}
use Rattle.std.specs.Slice.Iter.{iter_rest}
use Rattle.hs_values.specs.Order.{row_order_of}
use Rattle.hs_values.proofs.compare.order_rows.Given as goal

abbrev pub invariant-loop-x : goal.invariant-loop-x
invariant-loop-x l = record {
  left_equal : row_order_of l.a l.b ≡ row_order_of (iter_rest (zip_first l.x-iterator)) (iter_rest (zip_second l.x-iterator));
  as_many : length l.a + length (iter_rest (zip_second l.x-iterator)) ≡ length l.b + length (iter_rest (zip_first l.x-iterator));
}
