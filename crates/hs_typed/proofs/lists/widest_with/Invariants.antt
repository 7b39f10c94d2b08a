use Rattle.std.proofs.Common.{◌≡◌, drop}
use Rattle.hs_typed.specs.Rules.{kinds_of, widest_with}
use Rattle.hs_typed.proofs.lists.widest_with.Given as goal

abbrev pub invariant-loop-a : goal.invariant-loop-a
invariant-loop-a l = widest_with l.kind (kinds_of (drop l.a-index l.more)) ≡ widest_with l.fn.first (kinds_of l.more)
