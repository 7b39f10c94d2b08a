use Rattle.std.proofs.Common.{◌≡◌, drop}
use Rattle.hs_values.specs.Order.{keyed_order_of}
use Rattle.hs_values.proofs.compare.order_rows_by.Given as goal

abbrev pub invariant-loop-i : goal.invariant-loop-i
invariant-loop-i l = keyed_order_of l.descending l.a l.b ≡ keyed_order_of (drop l.i l.descending) (drop l.i l.a) (drop l.i l.b)
