use Rattle.std.proofs.Common.{◌≡◌, drop, nat_eq}
use Rattle.std.specs.List.{flat_map}
use Rattle.indexmap.specs.IndexSet.{insert_all}
use Rattle.hs_closure.specs.Steps.{neighbours_of}
use Rattle.hs_closure.proofs.neighbours.add_all_neighbours.Given as goal

abbrev pub invariant-loop-number : goal.invariant-loop-number
invariant-loop-number l = insert_all nat_eq l.set (flat_map (neighbours_of l.cat) (drop l.number-index l.tables)) ≡ insert_all nat_eq l.fn.set (flat_map (neighbours_of l.cat) l.tables)
