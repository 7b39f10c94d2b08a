use Rattle.hs_rel.proofs.Joining.{unmatched_rows}
use Rattle.hs_answer.specs.Places.{value_over}
use Rattle.hs_answer_laws.proofs.Rows.{inner_is, left_adds}
use Rattle.hs_answer_laws.proofs.clauses.a_join_selects_from_a_product.Goals as goal

pub returns : goal.returns
returns c = record {
  join = inner_is;
  left_join = left_adds;
  unmatched = λ source on outer. unmatched_rows (value_over on outer);
}
