use Rattle.hs_committext.proofs.FormLemmas.{lone_unended, lone_found, lone_missing}
use Rattle.hs_committext.proofs.changes.read_lone.Goals as goal

pub returns-in_default : goal.returns-in_default
returns-in_default g c = lone_unended (g.C.Conditions.wording c.args.conditions.now) c.args.catalog.now c.args.text.now c.in_default.ensures

pub returns-in_ok-changes-in-Some-2 : goal.returns-in_ok-changes-in-Some-2
returns-in_ok-changes-in-Some-2 g c =
    lone_found (g.C.Conditions.wording c.args.conditions.now) c.args.catalog.now c.args.text.now c.in-Some.lines.now c.in-Some-2.definition c.in_ok-changes-in-Some-2.changes c.in-Some.ensures
    (rw c.in-Some-2.is at c.in_ok-definition.ensures) c.in_ok-changes-in-Some-2.ensures

pub returns-in-None : goal.returns-in-None
returns-in-None g c =
    lone_missing (g.C.Conditions.wording c.args.conditions.now) c.args.catalog.now c.args.text.now c.in-Some.lines.now c.in-Some.ensures (rw c.in-None.is at c.in_ok-definition.ensures)
