use Rattle.hs_conflicts.proofs.Tied.{tied_drop, tied_push}
use Rattle.hs_conflicts.proofs.laws.claims_stay_tied_to_commits.Goals as goal

pub returns : goal.returns
returns c = record {
  dropped = tied_drop;
  pushed = tied_push;
}
