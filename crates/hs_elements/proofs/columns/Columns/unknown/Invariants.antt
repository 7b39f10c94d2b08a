use Rattle.std.proofs.Common.{◌≡◌, drop}
use Rattle.hs_elements.specs.Columns.{unknown}
use Rattle.hs_elements.specs.Faults.{least_of}
use Rattle.hs_elements.proofs.columns.Columns.unknown.Given as goal

abbrev pub invariant-loop-name : goal.invariant-loop-name
invariant-loop-name l = least_of l.faults (unknown l.self (drop l.name-index l.names)) ≡ least_of l.fn.faults (unknown l.self l.names)
