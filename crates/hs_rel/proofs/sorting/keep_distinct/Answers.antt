use Rattle.std.proofs.Common.{rules}
use Rattle.std.proofs.lemmas.Fn.{dedup_same}
use Rattle.hs_rel.specs.Bags.{same_row}
use Rattle.hs_rel.proofs.Shown.{shown_distinct}
use Rattle.hs_rel.proofs.sorting.keep_distinct.Goals as goal

pub returns : goal.returns
returns g c =
    let shown = g.T.AsRow.shown in
    shown_distinct shown c.args.rows.now.items c.sort.new.rows.items c.dedup_by.new.self.items c.in_ok-sort.ensures
    (dedup_same _ (λ a b. same_row (shown a) (shown b)) _ (λ x y b f x' y' k. search rules) c.sort.new.rows.items c.dedup_by.new.self.items c.dedup_by.ensures.filtered)
