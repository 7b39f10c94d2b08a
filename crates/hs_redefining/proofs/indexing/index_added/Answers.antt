use Rattle.std.proofs.Common.{◌∙◌}
use Rattle.hs_redefining.proofs.indexing.index_added.Goals as goal

pub returns : goal.returns
returns c = λ maps changes is. record {
  rows = record { draft = λ t. c.index_from.ensures t ∙ is.rows.draft t };
  of_rows = is.of_rows;
  inserted = is.inserted;
  count = is.count;
  steps = is.steps;
}
