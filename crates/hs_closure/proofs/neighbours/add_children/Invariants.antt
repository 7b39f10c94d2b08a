use Rattle.std.proofs.Common.{◌≡◌, drop, map, nat_eq}
use Rattle.indexmap.specs.IndexSet.{insert_all}
use Rattle.hs_closure.specs.Steps.{numbers}
use Rattle.hs_closure.proofs.neighbours.add_children.Given as goal

abbrev pub invariant-loop-link : goal.invariant-loop-link
invariant-loop-link l = insert_all nat_eq l.set (numbers (map (λ c. c.table) (drop l.link-index l.links))) ≡ insert_all nat_eq l.fn.set (numbers (map (λ c. c.table) l.links))
