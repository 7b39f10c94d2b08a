use Rattle.std.proofs.Common.{subst}
use Rattle.hs_answer.specs.Answer.{evaluated}
use Rattle.hs_changes.specs.Settings.{Maps}
use Rattle.hs_rel.specs.Outcome.{Answers}
use Rattle.hs_checks.proofs.conditions.given.Goals as goal

pub returns : goal.returns
returns c =
    subst (λ (tables : Maps). Answers (evaluated tables c.args.condition.now c.args.row.now) c.eval_expr.result) (λ i table. c.new-none.ensures.rows table i) (c.eval_expr.ensures.value tt)
