use Rattle.std.proofs.Common.{◌≡◌, ◌++◌, drop}
use Rattle.std.specs.Vec.Iter.{into_iter_items}
use Rattle.hs_tables.specs.Additions.{named}
use Rattle.hs_tables.proofs.sought.constraints_of.Given as goal

abbrev pub invariant-loop-name : goal.invariant-loop-name
invariant-loop-name l = l.made ++ named (drop l.name-index l.names) (into_iter_items l.rules) ≡ named l.names l.fn.rules.items
