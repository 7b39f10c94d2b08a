use Rattle.std.proofs.Common.{◌≡◌, ◌∙◌, List, map, ap, rules}
use Rattle.std.specs.List.Sorted.{IsSorted}
use Rattle.std.proofs.lemmas.Fn.{filter_same}
use Rattle.std.proofs.lemmas.List.Elements.{filter_agree}
use Rattle.hs_values.specs.declared.value.Value.{Value}
use Rattle.hs_values.specs.Order.{row_order_of}
use Rattle.hs_values.specs.Sorted.{sorted_rows}
use Rattle.hs_rel.specs.Bags.{is_wanted}
use Rattle.hs_rel.proofs.Shown.{shown_filtered, rows_sorted, wanted_sorted}
use Rattle.hs_rel.proofs.sorting.keep_among.Goals as goal

pub returns : goal.returns
returns g c =
    let shown = g.T.AsRow.shown in
    let among = c.args.among in
    let others = c.args.others.now in
    let sorted : List (List Value) = map (λ row. row.now) c.sort.new.rows.items in
    let is : sorted ≡ sorted_rows others = c.in_ok-sort.ensures ∙ ap sorted_rows (c.in_ok-sorted.ensures ∙ c.as_slice.ensures) in
    let up : IsSorted row_order_of sorted = rows_sorted others sorted is in
    ap (map shown) (filter_same _ (λ x. is_wanted among sorted (shown x)) _ (λ x b f k. search (rules, up)) c.args.rows.now.items c.retain.new.self.items c.retain.ensures.filtered)
    ∙ shown_filtered shown (is_wanted among sorted) c.args.rows.now.items
    ∙ filter_agree (is_wanted among sorted) (is_wanted among others) (wanted_sorted among others sorted is) (map shown c.args.rows.now.items)
