use Rattle.hs_keytext.proofs.KeyLemmas.{referenced_actionless}
use Rattle.hs_keytext.proofs.foreign_keys.read_referenced.Goals as goal

pub returns-in-None : goal.returns-in-None
returns-in-None c =
    referenced_actionless c.args.columns.now c.args.text.now c.in-Some.inner.now c.in-Ok-Some.rest.now c.in-Ok-Some.places c.in-Some.ensures
    (rw c.in-Ok-Some.field-0-is at c.in-Ok-Some.ensures)
    c.in-None.ensures
