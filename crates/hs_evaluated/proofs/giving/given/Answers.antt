use Rattle.std.proofs.Common.{sym, ◌∙◌}
use Rattle.hs_evaluated.proofs.giving.given.Goals as goal

pub returns-in-Ok : goal.returns-in-Ok
returns-in-Ok c = λ are r inserted db things rows.
    let seen = sym c.new-rows.ensures.rows in
    c.in-Ok.ensures.outcome tt seen are r inserted db things (rows ∙ seen)
