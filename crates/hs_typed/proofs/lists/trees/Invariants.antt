use Rattle.std.proofs.Common.{◌≡◌, map}
use Rattle.hs_typed.proofs.lists.trees.Given as goal

abbrev pub invariant-loop-a : goal.invariant-loop-a
invariant-loop-a l = l.trees ≡ map (λ a. a.tree) l.yielded
