use Rattle.std.proofs.Common.{◌≡◌, ◌++◌, drop}
use Rattle.hs_footprint.specs.Touched.{parents_named}
use Rattle.hs_footprint.proofs.parents.push_each.Given as goal

abbrev pub invariant-loop-change : goal.invariant-loop-change
invariant-loop-change l = l.keys ++ parents_named l.cat (drop l.change-index l.changes) ≡ l.fn.keys ++ parents_named l.cat l.changes
