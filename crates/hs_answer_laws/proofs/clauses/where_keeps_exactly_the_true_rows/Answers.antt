use Rattle.hs_rel.proofs.Selecting.{selected_rows, selected_fault, selected_least}
use Rattle.hs_answer.specs.Places.{value_over}
use Rattle.hs_answer_laws.proofs.clauses.where_keeps_exactly_the_true_rows.Goals as goal

pub returns : goal.returns
returns c = record {
  rows = λ outer rows kept condition. selected_rows (value_over condition outer) rows kept;
  fault = λ outer rows condition. selected_fault (value_over condition outer) rows;
  least = λ outer rows condition. selected_least (value_over condition outer) rows;
}
