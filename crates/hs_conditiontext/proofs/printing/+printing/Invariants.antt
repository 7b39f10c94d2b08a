-- What is written, with what is still to be written, is the whole.
use Rattle.std.proofs.Common.{◌≡◌, ◌++◌, true, map, drop}
use Rattle.hs_conditiontext.specs.Conditions.{concat, listed, condition_text, arm_text, item_text}
use Rattle.hs_conditiontext.specs.Operators.{before_operand, before_item}
use Rattle.hs_conditiontext.proofs.printing.+printing.Given as goal

abbrev pub invariant-print_operands-loop-e : goal.invariant-print_operands-loop-e
invariant-print_operands-loop-e l = l.out ++ listed (before_operand l.is_first) (map (condition_text l.columns) (drop l.e-index l.all)) ≡ l.fn.out ++ listed (before_operand true) (map (condition_text l.columns) l.all)

abbrev pub invariant-print_items-loop-item : goal.invariant-print_items-loop-item
invariant-print_items-loop-item l = l.out ++ listed (before_item l.negated l.is_first) (map (item_text l.columns) (drop l.item-index l.list)) ≡ l.fn.out ++ listed (before_item l.negated true) (map (item_text l.columns) l.list)

abbrev pub invariant-print_each_arm-loop-arm : goal.invariant-print_each_arm-loop-arm
invariant-print_each_arm-loop-arm l = l.out ++ concat (map (arm_text l.columns) (drop l.arm-index l.arms)) ≡ l.fn.out ++ concat (map (arm_text l.columns) l.arms)
