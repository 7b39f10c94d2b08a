use Rattle.hs_claims.specs.Wants.{wants_of}
use Rattle.hs_conflicts.proofs.Tied.{none_from_clear, clear_from_none, first_conflict}
use Rattle.hs_conflicts.proofs.laws.claims_conflict_as_their_commits.Goals as goal

pub returns : goal.returns
returns c = record {
  none = λ kind o f n claims commits tied. (none_from_clear kind (wants_of kind o.level o.read_only f) claims commits n tied, clear_from_none kind (wants_of kind o.level o.read_only f) claims commits n tied);
  some = λ kind o f n number claims commits tied found. first_conflict kind (wants_of kind o.level o.read_only f) claims commits n number tied found;
}
