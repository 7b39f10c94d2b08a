use Rattle.std.proofs.Common.{◌+◌, List, drop, sym, ap, ◌∙◌}
use Rattle.hs_actions.specs.Referencing.{keys_on}
use Rattle.hs_acting.specs.Kept.{keys_in}
use Rattle.hs_schema.specs.declared.thing.Thing.{Thing}
use Rattle.hs_references.specs.Collected.{told}
use Rattle.hs_references.specs.Referenced.{references_on}
use Rattle.hs_references.proofs.Collecting.{told_on}
use Rattle.hs_references.proofs.Finding.{item}
use Rattle.hs_references.proofs.collected.put_things.Goals as goal

pub loop-thing-preserved : goal.loop-thing-preserved
loop-thing-preserved c = λ t.
    let i = c.loop-thing.thing-index in
    let things = c.args.things.now in
    let thing = c.thing-item.result in
    let those = references_on c.args.cat.now in
    let old = keys_on (keys_in c.loop-thing.keys) in
    told_on those thing (drop (i + 1) things) old (keys_on (keys_in c.put_thing.new.keys)) c.in_ok-put_thing.ensures t
    ∙ ap (λ (ts : List Thing). told those ts old t) (sym (item things i thing c.loop-thing-test.true c.thing-item.is))
    ∙ c.loop-thing.invariant t
