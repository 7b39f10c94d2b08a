use Rattle.std.proofs.Common.{◌≡◌, map, drop}
use Rattle.std.specs.List.{list_any}
use Rattle.hs_meaning.specs.Trees.{item_of}
use Rattle.hs_grouping.proofs.aggregates.items_have.Given as goal

abbrev pub invariant-loop-item : goal.invariant-loop-item
invariant-loop-item l = list_any (λ i. i.aggregate) (map (item_of l.catalog) l.items) ≡ list_any (λ i. i.aggregate) (map (item_of l.catalog) (drop l.item-index l.items))
