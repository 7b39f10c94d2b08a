use Rattle.hs_answer_laws.proofs.Rows.{one_element, two_elements}
use Rattle.hs_answer_laws.proofs.clauses.from_is_a_product.Goals as goal

pub returns : goal.returns
returns c = record { one = one_element; two = two_elements }
