use Rattle.std.proofs.Common.{rules}
use Rattle.hs_rel.specs.Groups.{key_order}
use Rattle.hs_rel.proofs.Shown.{sorted_by_closure, key_order_total}
use Rattle.hs_rel.proofs.sorting.sort_by_first.Goals as goal

pub returns : goal.returns
returns g c =
    let keys = c.args.keys in
    sorted_by_closure g.T.AsRow.shown (key_order keys) (key_order_total keys) _ _ c.sort_by.result c.args.rows.now.items c.sort_by.new.self.items (λ a r f h. search rules) c.sort_by.ensures.sorted c.sort_by.ensures.stable
