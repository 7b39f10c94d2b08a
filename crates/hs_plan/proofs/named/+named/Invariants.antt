use Rattle.std.proofs.Common.{◌≡◌, ◌++◌, map, drop}
use Rattle.hs_plan.specs.Named.{concat, named, named_in_item, named_in_arm, named_in_row, named_in_from, named_in_join, named_in_sort_key}
use Rattle.hs_plan.proofs.named.+named.Given as goal

abbrev pub invariant-in_expressions-loop-e : goal.invariant-in_expressions-loop-e
invariant-in_expressions-loop-e l = l.out ++ concat (map named (drop l.e-index l.all)) ≡ l.fn.out ++ concat (map named l.all)

abbrev pub invariant-in_list-loop-one : goal.invariant-in_list-loop-one
invariant-in_list-loop-one l = l.out ++ concat (map named_in_item (drop l.one-index l.all)) ≡ l.fn.out ++ concat (map named_in_item l.all)

abbrev pub invariant-in_arms-loop-arm : goal.invariant-in_arms-loop-arm
invariant-in_arms-loop-arm l = l.out ++ concat (map named_in_arm (drop l.arm-index l.arms)) ≡ l.fn.out ++ concat (map named_in_arm l.arms)

abbrev pub invariant-in_rows-loop-row : goal.invariant-in_rows-loop-row
invariant-in_rows-loop-row l = l.out ++ concat (map named_in_row (drop l.row-index l.rows)) ≡ l.fn.out ++ concat (map named_in_row l.rows)

abbrev pub invariant-in_from-loop-item : goal.invariant-in_from-loop-item
invariant-in_from-loop-item l = l.out ++ concat (map named_in_from (drop l.item-index l.from)) ≡ l.fn.out ++ concat (map named_in_from l.from)

abbrev pub invariant-in_joins-loop-join : goal.invariant-in_joins-loop-join
invariant-in_joins-loop-join l = l.out ++ concat (map named_in_join (drop l.join-index l.joins)) ≡ l.fn.out ++ concat (map named_in_join l.joins)

abbrev pub invariant-in_keys-loop-one : goal.invariant-in_keys-loop-one
invariant-in_keys-loop-one l = l.out ++ concat (map named_in_sort_key (drop l.one-index l.keys)) ≡ l.fn.out ++ concat (map named_in_sort_key l.keys)
