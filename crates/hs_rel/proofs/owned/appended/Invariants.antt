use Rattle.std.proofs.Common.{◌≡◌, ◌++◌}
use Rattle.hs_rel.proofs.owned.appended.Given as goal

abbrev pub invariant-loop-row : goal.invariant-loop-row
invariant-loop-row l = l.both.items ≡ l.fn.left ++ l.yielded
