use Rattle.std.proofs.Common.{◌≡◌, ◌++◌, drop}
use Rattle.hs_places.specs.Picking.{picked}
use Rattle.hs_places.proofs.picking.pick_rows.Given as goal

abbrev pub invariant-loop-i : goal.invariant-loop-i
invariant-loop-i l = l.kept ++ picked (drop l.i l.row-items) (drop l.i l.outcomes) ≡ picked l.fn.rows l.outcomes
