use Rattle.std.proofs.Common.{◌≡◌, drop, nat_eq}
use Rattle.std.specs.List.{flat_map}
use Rattle.indexmap.specs.IndexSet.{insert_all}
use Rattle.hs_closure.specs.Changing.{locked}
use Rattle.hs_closure.specs.Steps.{numbers}
use Rattle.hs_closure.proofs.changing.add_locked.Given as goal

abbrev pub invariant-loop-one : goal.invariant-loop-one
invariant-loop-one l = insert_all nat_eq l.set (numbers (flat_map locked (drop l.one-index l.all))) ≡ insert_all nat_eq l.fn.set (numbers (flat_map locked l.all))
