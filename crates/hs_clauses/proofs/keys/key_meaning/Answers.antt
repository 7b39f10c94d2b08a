use Rattle.std.proofs.Common.{◌∙◌}
use Rattle.hs_clauses.proofs.Forms.{key_meaning_is}
use Rattle.hs_clauses.proofs.keys.key_meaning.Goals as goal

pub returns : goal.returns
returns c = λ things. c.key_meaning.ensures ∙ key_meaning_is things c.args.plain c.args.outputs.now c.args.key.now
