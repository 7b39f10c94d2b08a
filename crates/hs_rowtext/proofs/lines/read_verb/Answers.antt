use Rattle.hs_rowtext.proofs.LineLemmas.{verb_none}
use Rattle.hs_rowtext.proofs.lines.read_verb.Goals as goal

pub returns-in-None : goal.returns-in-None
returns-in-None c = verb_none c.args.line.now c.in_default.ensures c.in_default-behind.ensures c.in-None.ensures
