use Rattle.std.proofs.Common.{◌==◌}
use Rattle.hs_actions.specs.Referencing.{keys_on}
use Rattle.hs_acting.specs.Kept.{keys_in}
use Rattle.hs_references.proofs.Collecting.{none_behind, one_behind}
use Rattle.hs_references.proofs.collected.put_all.Goals as goal

pub loop-key-init : goal.loop-key-init
loop-key-init c = λ t. none_behind (t == c.args.table.0) (keys_on (keys_in c.args.keys.now) t)

pub loop-key-preserved : goal.loop-key-preserved
loop-key-preserved c = λ t. one_behind _ _ _ _ _ _ (c.in_ok-push.ensures t) (c.loop-key.invariant t)
