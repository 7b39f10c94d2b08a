use Rattle.hs_keytext.specs.Owners.{seen}
use Rattle.hs_alterationtext.proofs.AlterationLemmas.{dropped_found, alteration_none}
use Rattle.hs_alterationtext.proofs.alterations.read_alteration.Goals as goal

pub returns-in-Some-2 : goal.returns-in-Some-2
returns-in-Some-2 g c =
    dropped_found (g.C.Conditions.wording c.args.conditions.now) (seen c.args.table.now) c.args.text.now c.in-Some-2.name
    (rw c.in-Some-2.is at c.in_ok-name.ensures)

pub returns-in-None : goal.returns-in-None
returns-in-None g c =
    alteration_none (g.C.Conditions.wording c.args.conditions.now) (seen c.args.table.now) c.args.text.now c.in_default.ensures c.in_default-behind.ensures
    (rw c.in-None.is at c.in_ok-name.ensures)
