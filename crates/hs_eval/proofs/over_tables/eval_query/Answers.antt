use Rattle.std.proofs.Common.{Result, subst}
use Rattle.hs_values.specs.declared.fault.EvalFault.{EvalFault}
use Rattle.hs_expression.specs.Surroundings.{Rows}
use Rattle.hs_rel.specs.Outcome.{Answers}
use Rattle.hs_eval.proofs.over_tables.eval_query.Goals as goal

pub returns-clause-answer : goal.returns-clause-answer
returns-clause-answer g c = λ tells. subst (λ (means : Result Rows EvalFault). Answers means c.answer_over.result) (c.in_ok-copies.ensures.answer tells) c.answer_over.ensures.answer
