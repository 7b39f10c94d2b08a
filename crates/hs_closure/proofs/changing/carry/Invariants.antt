use Rattle.std.proofs.Common.{◌≡◌, drop, nat_eq}
use Rattle.std.specs.List.{flat_map}
use Rattle.indexmap.specs.IndexSet.{insert_all}
use Rattle.hs_closure.specs.Steps.{followers}
use Rattle.hs_closure.specs.declared.way.Way.TheVariants as way
use Rattle.hs_closure.proofs.changing.carry.Given as goal

abbrev pub invariant-loop-number : goal.invariant-loop-number
invariant-loop-number l =
    insert_all nat_eq l.updated (flat_map (followers l.cat way.Deletion way.Update) (drop l.number-index l.deleted)) ≡ insert_all nat_eq l.fn.updated (flat_map (followers l.cat way.Deletion way.Update) l.deleted)
