use Rattle.std.proofs.Common.{◌∙◌}
use Rattle.hs_clauses.proofs.Forms.{above_is}
use Rattle.hs_clauses.proofs.values.no_rows.Goals as goal

pub returns-clause-columns : goal.returns-clause-columns
returns-clause-columns c = λ things. c.in_ok-columns.ensures ∙ above_is things c.args.rows.now
