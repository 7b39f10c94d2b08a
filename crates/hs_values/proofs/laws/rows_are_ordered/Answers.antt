use Rattle.std.specs.Cmp.{tied_itself}
use Rattle.hs_values.specs.TotalOrder.{row_order_of_total, keyed_order_of_total}
use Rattle.hs_values.proofs.KeyedRows.{keyed_ties, null_first, descending_turned}
use Rattle.hs_values.proofs.laws.rows_are_ordered.Goals as goal

pub returns : goal.returns
returns c = record { total = row_order_of_total; itself = tied_itself row_order_of_total; by_flags = keyed_order_of_total; null_first = null_first; turned = descending_turned; ties = keyed_ties }
