use Rattle.hs_answer_laws.proofs.Least.{least_outcome}
use Rattle.hs_answer_laws.proofs.Outcomes.{all_given}
use Rattle.hs_answer_laws.proofs.bodies.the_least_fault_of_a_part_counts.Goals as goal

pub returns : goal.returns
returns c = record {
  all = all_given;
  found = λ outcomes fault h. (least_outcome outcomes fault h).0;
  least = λ outcomes fault other h. (least_outcome outcomes fault h).1 other;
}
