use Rattle.std.proofs.Common.{◌≡◌, map}
use Rattle.hs_typed.specs.Rules.{list_item}
use Rattle.hs_typed.proofs.lists.list_items.Given as goal

abbrev pub invariant-loop-x : goal.invariant-loop-x
invariant-loop-x l = l.items ≡ map (list_item l.a) l.yielded
