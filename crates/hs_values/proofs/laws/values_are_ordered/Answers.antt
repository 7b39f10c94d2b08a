use Rattle.std.specs.Cmp.{tied_itself}
use Rattle.hs_values.specs.TotalOrder.{order_of_total}
use Rattle.hs_values.proofs.laws.values_are_ordered.Goals as goal

pub returns : goal.returns
returns c = record { total = order_of_total; itself = tied_itself order_of_total }
