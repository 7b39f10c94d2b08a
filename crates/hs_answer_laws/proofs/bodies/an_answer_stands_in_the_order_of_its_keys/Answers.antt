use Rattle.hs_answer_laws.proofs.Order.{answered_in_order}
use Rattle.hs_answer_laws.proofs.bodies.an_answer_stands_in_the_order_of_its_keys.Goals as goal

pub returns : goal.returns
returns c = answered_in_order
