use Rattle.hs_turns.specs.Events.{reached}
use Rattle.hs_turns.specs.Promises.{IsCommitted, IsInOrder}
use Rattle.hs_turns.proofs.Ended.{Right, in_order}
use Rattle.hs_turns.proofs.Lists.{each_both}
use Rattle.hs_turns.proofs.Whole.{whole}
use Rattle.hs_turns.proofs.promises.serializable_transactions_are_as_run_one_at_a_time.Goals as goal

pub returns : goal.returns
returns c = record {
  committed = λ lang opening events laws stands. (whole lang laws opening stands events).committed;
  made = λ lang opening events laws stands. (whole lang laws opening stands events).made;
  in_order = λ lang opening events laws stands.
      let h = reached lang opening events in
      let w = whole lang laws opening stands events in
      each_both (Right lang opening h.commits) (IsCommitted h.commits) (IsInOrder lang opening h.commits) (in_order lang opening h.commits) h.ended w.ended w.committed;
}
