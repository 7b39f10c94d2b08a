use Rattle.std.proofs.Common.{◌≡◌, drop, map, filter, nat_eq}
use Rattle.indexmap.specs.IndexSet.{insert_all}
use Rattle.hs_closure.specs.Changing.{follows}
use Rattle.hs_closure.specs.Steps.{followers}
use Rattle.hs_closure.proofs.changing.add_followers.Given as goal

abbrev pub invariant-loop-link : goal.invariant-loop-link
invariant-loop-link l = insert_all nat_eq l.set (map (λ c. c.table.0) (filter (follows l.from l.to) (drop l.link-index l.link-items))) ≡ insert_all nat_eq l.fn.set (followers l.cat l.from l.to l.fn.table.0)
