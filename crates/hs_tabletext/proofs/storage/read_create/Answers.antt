use Rattle.hs_tabletext.proofs.TableLemmas.{create_none}
use Rattle.hs_tabletext.proofs.storage.read_create.Goals as goal

pub returns-in-None : goal.returns-in-None
returns-in-None c = create_none c.args.text.now c.in_default.ensures c.in-None.ensures
