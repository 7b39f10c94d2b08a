use Rattle.hs_conditions.proofs.Trees.{read}
use Rattle.hs_conditions.proofs.tree.parsed.Goals as goal

pub returns-in-Ok : goal.returns-in-Ok
returns-in-Ok c = read c.args.text.now c.args.tokens.now c.in-Ok.statement c.requires c.in-Ok.ensures.statement
