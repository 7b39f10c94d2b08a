use Rattle.std.proofs.Common.{◌≡◌, drop, nat_eq}
use Rattle.indexmap.specs.IndexSet.{insert_all}
use Rattle.hs_closure.specs.Changing.{parents_by}
use Rattle.hs_closure.specs.Steps.{numbers}
use Rattle.hs_closure.proofs.neighbours.add_parents.Given as goal

abbrev pub invariant-loop-constraint : goal.invariant-loop-constraint
invariant-loop-constraint l = insert_all nat_eq l.set (numbers (parents_by l.cat (drop l.constraint-index l.constraints))) ≡ insert_all nat_eq l.fn.set (numbers (parents_by l.cat l.constraints))
