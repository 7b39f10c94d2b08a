use Rattle.std.proofs.Common.{Result, subst}
use Rattle.hs_values.specs.declared.fault.EvalFault.{EvalFault}
use Rattle.hs_acting.specs.Kept.{keys_in}
use Rattle.hs_rel.specs.Outcome.{Answers}
use Rattle.hs_exec.specs.declared.answer.Answer.{Answer}
use Rattle.hs_exec.proofs.Alike.{executed_alike}
use Rattle.hs_exec.proofs.executing.execute.Goals as goal

pub returns-clause-answer : goal.returns-clause-answer
returns-clause-answer g c = λ tells keys are.
    subst (λ (means : Result Answer EvalFault). Answers means c.execute_read.result)
    (executed_alike (g.R.Rows.tables c.args.rows.now) c.args.cat.now (keys_in c.in_ok-keys.keys) keys c.args.plan.now c.in_ok-keys.ensures.keys are)
    (c.execute_read.ensures.answer tells)
