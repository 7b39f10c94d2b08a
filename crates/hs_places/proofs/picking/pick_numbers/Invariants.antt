use Rattle.std.proofs.Common.{◌≡◌, ◌++◌, drop}
use Rattle.hs_places.specs.Picking.{picked}
use Rattle.hs_places.proofs.picking.pick_numbers.Given as goal

abbrev pub invariant-loop-i : goal.invariant-loop-i
invariant-loop-i l = l.kept.items ++ picked (drop l.i l.number-items) (drop l.i l.outcomes) ≡ picked l.fn.numbers.items l.outcomes
