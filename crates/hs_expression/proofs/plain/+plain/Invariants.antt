use Rattle.std.proofs.Common.{◌≡◌, map, drop}
use Rattle.hs_expression.specs.Plain.{all, is_plain, item_is_plain, arm_is_plain}
use Rattle.hs_expression.proofs.plain.+plain.Given as goal

abbrev pub invariant-are_plain-loop-e : goal.invariant-are_plain-loop-e
invariant-are_plain-loop-e l = all (map is_plain l.all) ≡ all (map is_plain (drop l.e-index l.all))

abbrev pub invariant-items_are_plain-loop-item : goal.invariant-items_are_plain-loop-item
invariant-items_are_plain-loop-item l = all (map item_is_plain l.list) ≡ all (map item_is_plain (drop l.item-index l.list))

abbrev pub invariant-arms_are_plain-loop-arm : goal.invariant-arms_are_plain-loop-arm
invariant-arms_are_plain-loop-arm l = all (map arm_is_plain l.arms) ≡ all (map arm_is_plain (drop l.arm-index l.arms))
