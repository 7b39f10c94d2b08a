use Rattle.std.proofs.Common.{◌≡◌, fold, drop}
use Rattle.std.specs.List.{filter_map}
use Rattle.hs_rel.specs.Selection.{fault_of, lesser_of}
use Rattle.hs_places.proofs.picking.least_from.Given as goal

abbrev pub invariant-loop-outcome : goal.invariant-loop-outcome
invariant-loop-outcome l = fold lesser_of l.fn.fault (filter_map fault_of l.outcomes) ≡ fold lesser_of l.least (filter_map fault_of (drop l.outcome-index l.outcomes))
