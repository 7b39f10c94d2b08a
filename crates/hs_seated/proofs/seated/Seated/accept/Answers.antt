use Rattle.hs_changes.specs.Changes.{after_changes}
use Rattle.hs_seated.proofs.seated.Seated.accept.Goals as goal

pub returns-clause-seated : goal.returns-clause-seated
returns-clause-seated c = λ maps seated is. record {
  rows = c.accept.ensures.rows (after_changes 0 maps seated) is.rows;
  of_rows = is.of_rows;
  inserted = is.inserted;
  count = is.count;
  steps = is.steps;
}
