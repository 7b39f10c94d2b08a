use Rattle.hs_script.proofs.HeadLemmas.{control_none}
use Rattle.hs_script.proofs.head_reading.read_control.Goals as goal

pub returns-in-None : goal.returns-in-None
returns-in-None c = control_none c.args.text.now c.in_default.ensures c.in_default-behind.ensures c.in-None.ensures
