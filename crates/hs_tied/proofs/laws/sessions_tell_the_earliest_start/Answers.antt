use Rattle.hs_tied.proofs.Starts.{claimers_of, claimers_within}
use Rattle.hs_tied.proofs.laws.sessions_tell_the_earliest_start.Goals as goal

pub returns : goal.returns
returns c = record {
  earliest = λ h k holds s least is. claimers_of h k holds s least is;
  within = λ h k holds s least is n within. claimers_within h k holds s least is n within;
}
