use Rattle.hs_answer_laws.proofs.Least.{having_rows, having_fault, having_least}
use Rattle.hs_answer_laws.proofs.clauses.having_keeps_exactly_the_true_groups.Goals as goal

pub returns : goal.returns
returns c = record { groups = having_rows; fault = having_fault; least = having_least }
