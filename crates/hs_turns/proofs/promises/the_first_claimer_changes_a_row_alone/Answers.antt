use Rattle.hs_turns.specs.Events.{reached}
use Rattle.hs_turns.specs.Promises.{IsFirst}
use Rattle.hs_turns.proofs.Ended.{Right}
use Rattle.hs_turns.proofs.Lists.{each_map}
use Rattle.hs_turns.proofs.Whole.{whole}
use Rattle.hs_turns.proofs.promises.the_first_claimer_changes_a_row_alone.Goals as goal

pub returns : goal.returns
returns c = λ lang opening events laws stands.
    let h = reached lang opening events in
    each_map (Right lang opening h.commits) (IsFirst h.commits) (λ e r. r.first) h.ended (whole lang laws opening stands events).ended
