use Rattle.std.proofs.Common.{◌≡◌, ◌++◌, take}
use Rattle.hs_redefining.proofs.longer.with_more.Given as goal

abbrev pub invariant-loop-value : goal.invariant-loop-value
invariant-loop-value l = l.made ≡ l.row ++ take l.value-index l.more
