use Rattle.hs_script.proofs.DefinitionLemmas.{numbered_known, numbered_unknown, numbered_missing}
use Rattle.hs_script.proofs.definition_reading.read_numbered.Goals as goal

pub returns-in_default : goal.returns-in_default
returns-in_default g c = numbered_missing (g.C.Conditions.wording c.args.conditions.now) c.args.catalog.now c.args.text.now (rw c.in_default.is at c.in_ok-found.ensures)

pub returns-in-Some-2 : goal.returns-in-Some-2
returns-in-Some-2 g c =
    numbered_known (g.C.Conditions.wording c.args.conditions.now) c.args.catalog.now c.args.text.now c.in-Some.found.0.1 c.in-Some.found.1.now c.in-Some.found.0.0 c.in-Some-2.definition
    (rw c.in-Some.is at c.in_ok-found.ensures)
    (rw c.in-Some-2.is at c.in_ok-definition.ensures)

pub returns : goal.returns
returns g c =
    numbered_unknown (g.C.Conditions.wording c.args.conditions.now) c.args.catalog.now c.args.text.now c.in-Some.found.0.1 c.in-Some.found.1.now c.in-Some.found.0.0
    (rw c.in-Some.is at c.in_ok-found.ensures)
    (rw c.in-None.is at c.in_ok-definition.ensures)
