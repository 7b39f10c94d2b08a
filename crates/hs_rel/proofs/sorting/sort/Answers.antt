use Rattle.std.proofs.Common.{rules}
use Rattle.hs_values.specs.Order.{keyed_order_of}
use Rattle.hs_values.specs.TotalOrder.{keyed_order_of_total}
use Rattle.hs_rel.proofs.Shown.{sorted_by_closure}
use Rattle.hs_rel.proofs.sorting.sort.Goals as goal

pub returns : goal.returns
returns g c =
    let flags = c.args.descending.now in
    sorted_by_closure g.T.AsRow.shown (keyed_order_of flags) (keyed_order_of_total flags) _ _ c.sort_by.result c.args.rows.now.items c.sort_by.new.self.items (λ a r f h. search rules) c.sort_by.ensures.sorted c.sort_by.ensures.stable
