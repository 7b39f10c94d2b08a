use Rattle.std.proofs.Common.{◌≡◌, ◌++◌, drop}
use Rattle.hs_footprint.specs.Touched.{rows_changed}
use Rattle.hs_footprint.proofs.rows.push_rows.Given as goal

abbrev pub invariant-loop-change : goal.invariant-loop-change
invariant-loop-change l = l.rows ++ rows_changed (drop l.change-index l.changes) ≡ l.fn.rows ++ rows_changed l.changes
