use Rattle.std.proofs.Common.{◌≡◌, ◌++◌, drop}
use Rattle.hs_footprint.specs.Touched.{keys_changed}
use Rattle.hs_footprint.proofs.keys.push_each.Given as goal

abbrev pub invariant-loop-change : goal.invariant-loop-change
invariant-loop-change g l =
    let before = g.B.RowsBefore.maps l.before in
    l.keys ++ keys_changed l.cat before (drop l.change-index l.changes) ≡ l.fn.keys ++ keys_changed l.cat before l.changes
