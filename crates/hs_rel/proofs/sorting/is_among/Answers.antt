use Rattle.std.proofs.Common.{◌∙◌, Bor, List, rules}
use Rattle.std.proofs.lemmas.Fn.{always_returns_same}
use Rattle.hs_values.specs.declared.value.Value.{Value}
use Rattle.hs_values.specs.Order.{row_order_of}
use Rattle.hs_values.specs.TotalOrder.{row_order_of_total}
use Rattle.hs_rel.proofs.Shown.{shown_searched}
use Rattle.hs_rel.proofs.sorting.is_among.Goals as goal

pub returns : goal.returns
returns c up =
    c.is_ok.ensures.value
    ∙ shown_searched {T = Bor (List Value)} (λ row. row.now) row_order_of row_order_of_total c.args.sorted.now c.args.row.now c.binary_search_by.result up c.binary_search_by.ensures.bound
    (c.binary_search_by.ensures.position (λ other. row_order_of other.now c.args.row.now) (always_returns_same _ _ _ (λ a r f h. search rules)))
