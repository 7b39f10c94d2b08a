use Rattle.hs_values.specs.Order.{row_order_of, keyed_order_of}
use Rattle.hs_values.specs.TotalOrder.{row_order_of_total, keyed_order_of_total}
use Rattle.hs_values.proofs.Stable.{sorted_by-IsPermutation, sorted_by-IsSorted, sorted_by-IsStable, sorted_by-only}
use Rattle.hs_values.proofs.laws.rows_have_one_order.Goals as goal

pub returns : goal.returns
returns c = record {
  same = λ flags. sorted_by-IsPermutation (keyed_order_of flags) (keyed_order_of_total flags);
  in_order = λ flags. sorted_by-IsSorted (keyed_order_of flags) (keyed_order_of_total flags);
  stable = λ flags. sorted_by-IsStable (keyed_order_of flags) (keyed_order_of_total flags);
  only = λ flags. sorted_by-only (keyed_order_of flags) (keyed_order_of_total flags);
  ascending = sorted_by-IsSorted row_order_of row_order_of_total;
}
