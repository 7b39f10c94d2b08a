use Rattle.std.proofs.Common.{ap, ◌∙◌}
use Rattle.std.specs.List.{dedup}
use Rattle.std.proofs.lemmas.List.Filters.{dedup_is}
use Rattle.hs_values.specs.Order.{order_of}
use Rattle.hs_values.specs.TotalOrder.{order_of_total}
use Rattle.hs_values.proofs.Stable.{sorted_by-only}
use Rattle.hs_rel.proofs.FirstOfEach.{dedup-sorted_by}
use Rattle.hs_expression.specs.Distinct.{same_value}
use Rattle.hs_expression.proofs.distinct.keep_distinct.Goals as goal

pub returns : goal.returns
returns c =
    dedup_is same_value _ _ c.dedup.ensures.filtered
    ∙ ap (dedup same_value) (sorted_by-only order_of order_of_total _ _ c.in_ok-sort.ensures.sorted c.in_ok-sort.ensures.stable)
    ∙ dedup-sorted_by order_of order_of_total c.args.values.now.items
