use Rattle.hs_turns.specs.Events.{reached}
use Rattle.hs_turns.specs.Promises.{IsSerial}
use Rattle.hs_turns.proofs.Ended.{Right}
use Rattle.hs_turns.proofs.Lists.{each_map}
use Rattle.hs_turns.proofs.Whole.{whole}
use Rattle.hs_turns.proofs.promises.serializable_transactions_answer_in_the_order_of_their_commits.Goals as goal

pub returns : goal.returns
returns c = λ lang opening events laws stands.
    let h = reached lang opening events in
    each_map (Right lang opening h.commits) (IsSerial lang opening h.commits) (λ e r. r.serial) h.ended (whole lang laws opening stands events).ended
