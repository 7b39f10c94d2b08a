use Rattle.std.proofs.Common.{ap, ◌∙◌}
use Rattle.hs_meaning.specs.Queries.{unknown}
use Rattle.hs_clauses.proofs.Forms.{above_is}
use Rattle.hs_clauses.proofs.values.uneven_values.Goals as goal

pub returns-clause-columns : goal.returns-clause-columns
returns-clause-columns c = λ things. c.in_ok-columns.ensures ∙ ap unknown (above_is things c.args.rows.now)
