use Rattle.hs_turns.specs.Events.{reached}
use Rattle.hs_turns.specs.Promises.{IsSnapshot}
use Rattle.hs_turns.proofs.Ended.{Right}
use Rattle.hs_turns.proofs.Lists.{each_map}
use Rattle.hs_turns.proofs.Whole.{whole}
use Rattle.hs_turns.proofs.promises.snapshots_answer_as_alone_at_their_start.Goals as goal

pub returns : goal.returns
returns c = λ lang opening events laws stands.
    let h = reached lang opening events in
    each_map (Right lang opening h.commits) (IsSnapshot lang opening h.commits) (λ e r. r.snapshot) h.ended (whole lang laws opening stands events).ended
