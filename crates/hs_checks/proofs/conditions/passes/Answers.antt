use Rattle.std.specs.FinMap.{empty}
use Rattle.hs_answer.specs.Answer.{evaluated}
use Rattle.hs_checks.proofs.conditions.passes.Goals as goal

pub returns : goal.returns
returns c = c.verdict.ensures (evaluated (λ table. empty) c.args.condition.now c.args.row.now) c.given.ensures
