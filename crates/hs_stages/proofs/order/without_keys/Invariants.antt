use Rattle.std.proofs.Common.{◌≡◌, drop, map}
use Rattle.hs_stages.proofs.order.without_keys.Given as goal

abbrev pub invariant-loop-row : goal.invariant-loop-row
invariant-loop-row l = l.left.items ≡ map (drop l.keys) l.yielded
