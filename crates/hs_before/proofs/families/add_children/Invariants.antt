use Rattle.std.proofs.Common.{◌≡◌, fold, drop}
use Rattle.hs_before.specs.Family.{with_child}
use Rattle.hs_before.proofs.families.add_children.Given as goal

abbrev pub invariant-loop-key : goal.invariant-loop-key
invariant-loop-key l = fold with_child l.all (drop l.key-index l.keys) ≡ fold with_child l.fn.all l.keys
