use Rattle.std.proofs.Common.{sym, ◌∙◌}
use Rattle.hs_outcome.proofs.giving.give.Goals as goal

pub returns-then-is_evaluated-clause-outcome : goal.returns-then-is_evaluated-clause-outcome
returns-then-is_evaluated-clause-outcome g c = λ tells same are r inserted db things rows.
    c.evaluated.ensures.outcome tells same (sym c.is_evaluated.ensures ∙ c.if-is_evaluated.true) are r inserted db things rows
