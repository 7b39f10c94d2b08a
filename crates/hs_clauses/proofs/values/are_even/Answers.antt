use Rattle.std.proofs.Common.{◌∙◌}
use Rattle.hs_clauses.proofs.Forms.{even_is}
use Rattle.hs_clauses.proofs.values.are_even.Goals as goal

pub returns : goal.returns
returns c = λ things. c.have_one_length.ensures ∙ even_is things c.args.rows.now
