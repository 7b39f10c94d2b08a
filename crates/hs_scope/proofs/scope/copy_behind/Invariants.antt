use Rattle.std.proofs.Common.{◌≡◌, ◌++◌, take}
use Rattle.hs_scope.proofs.scope.copy_behind.Given as goal

abbrev pub invariant-loop-column : goal.invariant-loop-column
invariant-loop-column l = l.all ≡ l.fn.all ++ take l.column-index l.columns
