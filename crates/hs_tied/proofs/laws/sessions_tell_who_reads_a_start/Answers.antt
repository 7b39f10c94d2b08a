use Rattle.hs_tied.proofs.Starts.{all_unread, others_unread}
use Rattle.hs_tied.proofs.laws.sessions_tell_who_reads_a_start.Goals as goal

pub returns : goal.returns
returns c = record {
  others = λ h k holds s start none. others_unread h k holds s start none;
  all = λ h k holds start none. all_unread h k holds start none;
}
