use Rattle.hs_shorttext.proofs.PlainLemmas.{setting_none}
use Rattle.hs_shorttext.proofs.plain.read_setting.Goals as goal

pub returns-in-None : goal.returns-in-None
returns-in-None c = setting_none c.args.text.now c.in_default.ensures c.in-None.ensures
