use Rattle.hs_answer_laws.proofs.Unordered.{unordered}
use Rattle.hs_answer_laws.proofs.bodies.a_bag_has_one_answer.Goals as goal

pub returns : goal.returns
returns c = unordered
