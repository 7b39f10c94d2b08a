use Rattle.std.proofs.Common.{drop}
use Rattle.hs_sameness.specs.Plain.{is_plain, is_plain_arm, is_plain_item}
use Rattle.hs_sameness.proofs.Lists.{Compared}
use Rattle.hs_sameness.proofs.expressions.+sameness.Given as goal

abbrev pub invariant-are_operands-loop-x : goal.invariant-are_operands-loop-x
invariant-are_operands-loop-x l = Compared is_plain l.a l.b (drop l.x-index l.a) l.rest

abbrev pub invariant-are_items-loop-x : goal.invariant-are_items-loop-x
invariant-are_items-loop-x l = Compared is_plain_item l.a l.b (drop l.x-index l.a) l.rest

abbrev pub invariant-are_arms-loop-x : goal.invariant-are_arms-loop-x
invariant-are_arms-loop-x l = Compared is_plain_arm l.a l.b (drop l.x-index l.a) l.rest
