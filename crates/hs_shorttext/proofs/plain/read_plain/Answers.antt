use Rattle.hs_shorttext.proofs.PlainLemmas.{plain_none}
use Rattle.hs_shorttext.proofs.plain.read_plain.Goals as goal

pub returns-in-None : goal.returns-in-None
returns-in-None c = plain_none c.args.text.now c.in_default.ensures c.in_default-behind.ensures c.in-None.ensures
