use Rattle.hs_redefining.proofs.TablesOf.{none_in, one_in}
use Rattle.hs_redefining.proofs.tables.tables_of.Goals as goal

pub loop-thing-init : goal.loop-thing-init
loop-thing-init c = none_in c.new-all.result c.args.things.now

pub loop-thing-preserved : goal.loop-thing-preserved
loop-thing-preserved c = one_in c.loop-thing.all c.add.new.all c.args.things.now c.loop-thing.thing-index c.thing-item.result c.loop-thing-test.true c.thing-item.is c.in_ok-add.ensures c.loop-thing.invariant
