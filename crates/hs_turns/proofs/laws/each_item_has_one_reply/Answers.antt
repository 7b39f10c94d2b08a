use Rattle.std.proofs.Common.{arith}
use Rattle.hs_turns.specs.Machine.{start}
use Rattle.hs_turns.specs.Turns.{after, weight}
use Rattle.hs_turns.proofs.Answered.{nothing_owed, run_good}
use Rattle.hs_turns.proofs.Ends.{over}
use Rattle.hs_turns.proofs.Owed.{run_told}
use Rattle.hs_turns.proofs.laws.each_item_has_one_reply.Goals as goal

pub returns : goal.returns
returns c = λ d opening made items n.
    let m = start opening items in
    let k = weight m in
    omega (arith, run_told d opening made n k m, nothing_owed d opening made (after d opening made k m) (run_good d opening made items k) (over d opening made k m (omega arith)) n)
