use Rattle.std.proofs.Common.{◌≡◌, take}
use Rattle.hs_plan.proofs.+copies.Given as goal

abbrev pub invariant-copies::copy_arms-loop-arm : goal.invariant-copies::copy_arms-loop-arm
invariant-copies::copy_arms-loop-arm l = l.copied ≡ take l.arm-index l.arms

abbrev pub invariant-copies::copy_expressions-loop-e : goal.invariant-copies::copy_expressions-loop-e
invariant-copies::copy_expressions-loop-e l = l.copied ≡ take l.e-index l.all

abbrev pub invariant-copies::copy_from-loop-item : goal.invariant-copies::copy_from-loop-item
invariant-copies::copy_from-loop-item l = l.copied ≡ take l.item-index l.from

abbrev pub invariant-copies::copy_joins-loop-join : goal.invariant-copies::copy_joins-loop-join
invariant-copies::copy_joins-loop-join l = l.copied ≡ take l.join-index l.joins

abbrev pub invariant-copies::copy_keys-loop-key : goal.invariant-copies::copy_keys-loop-key
invariant-copies::copy_keys-loop-key l = l.copied ≡ take l.key-index l.keys

abbrev pub invariant-copies::copy_list-loop-one : goal.invariant-copies::copy_list-loop-one
invariant-copies::copy_list-loop-one l = l.copied ≡ take l.one-index l.all

abbrev pub invariant-copies::copy_rows-loop-row : goal.invariant-copies::copy_rows-loop-row
invariant-copies::copy_rows-loop-row l = l.copied ≡ take l.row-index l.rows
