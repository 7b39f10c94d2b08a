use Rattle.std.proofs.Common.{◌≡◌, Bor, Bool, List, map, ap, ◌∙◌, rules}
use Rattle.std.specs.Ordering.{is_lt, on}
use Rattle.std.specs.declared.cmp.Ordering.{Ordering}
use Rattle.std.specs.Cmp.{IsTotalOrder, on_total}
use Rattle.std.specs.List.Sorted.{IsSorted, IsStable}
use Rattle.std.proofs.lemmas.List.Sorted.{ranks_by}
use Rattle.std.proofs.lemmas.Fn.{always_returns_same}
use Rattle.std.proofs.lemmas.Result.{on_ok_weaker}
use Rattle.hs_values.specs.declared.value.Value.{Value}
use Rattle.hs_values.specs.Order.{keyed_order_of}
use Rattle.hs_values.specs.Sorted.{keyed_rows}
use Rattle.hs_values.specs.TotalOrder.{keyed_order_of_total}
use Rattle.hs_values.proofs.Stable.{sorted_by-only, map-sorted_by}
use Rattle.hs_values.proofs.compare.sort_rows_by.Goals as goal

-- the order of references to rows is that of the rows
abbrev shown : Bor (List Value) → List Value
shown r = r.now

abbrev by_rows : List Bool → Bor (List Value) → Bor (List Value) → Ordering
by_rows flags = on shown (keyed_order_of flags)

total : (flags : List Bool) → IsTotalOrder (by_rows flags)
total flags = on_total shown (keyed_order_of_total flags)

shown_sorted : (flags : List Bool) (xs ys : List (Bor (List Value))) → IsSorted (by_rows flags) ys → IsStable (by_rows flags) xs ys → map shown ys ≡ keyed_rows flags (map shown xs)
shown_sorted flags xs ys up stable = ap (map shown) (sorted_by-only (by_rows flags) (total flags) xs ys up stable) ∙ map-sorted_by shown (keyed_order_of flags) xs

pub returns-clause-ok : goal.returns-clause-ok
returns-clause-ok c =
    let flags = c.args.descending.now in
    on_ok_weaker c.sort_by.result
    (λ up. shown_sorted flags _ _ (up (λ a b. is_lt (by_rows flags a b)) (ranks_by (total flags) (λ x. x)) (always_returns_same _ _ _ (λ a r g h. search rules)))
    (c.sort_by.ensures.stable (λ a b. is_lt (by_rows flags a b)) (ranks_by (total flags) (λ x. x)) (always_returns_same _ _ _ (λ a r g h. search rules))))
    c.sort_by.ensures.sorted
