use Rattle.hs_keytext.specs.Owners.{seen}
use Rattle.hs_keytext.proofs.KeyLemmas.{key_unbegun}
use Rattle.hs_keytext.proofs.foreign_keys.read_foreign_key.Goals as goal

pub returns-in_default : goal.returns-in_default
returns-in_default c = key_unbegun (seen c.args.owner.now) c.args.text.now c.in_default.ensures
