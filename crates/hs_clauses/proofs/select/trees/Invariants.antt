use Rattle.std.proofs.Common.{◌≡◌, map}
use Rattle.hs_clauses.proofs.select.trees.Given as goal

abbrev pub invariant-loop-typed : goal.invariant-loop-typed
invariant-loop-typed l = l.trees ≡ map (λ t. t.tree) l.yielded
