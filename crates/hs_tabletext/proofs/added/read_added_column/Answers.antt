use Rattle.hs_keytext.specs.Owners.{seen}
use Rattle.hs_tabletext.proofs.ColumnLemmas.{added_found, added_ownless, added_columnless}
use Rattle.hs_tabletext.proofs.added.read_added_column.Goals as goal

pub returns-in_default : goal.returns-in_default
returns-in_default g c =
    added_columnless (g.C.Conditions.wording c.args.conditions.now) (seen c.args.table.now) c.args.text.now c.first_line.result.0.now c.first_line.result.1.now c.first_line.ensures
    (rw c.in_default.is at c.in_ok-column.ensures)

pub returns-in-Some-2 : goal.returns-in-Some-2
returns-in-Some-2 g c =
    added_found (g.C.Conditions.wording c.args.conditions.now) (seen c.args.table.now) c.args.text.now c.first_line.result.0.now c.first_line.result.1.now (record { column = c.in-Some.column; constraints = c.in-Some-2.constraints }) c.first_line.ensures
    (rw c.in-Some.is at c.in_ok-column.ensures)
    (rw c.in-Some-2.is at c.in_ok-constraints.ensures)

pub returns-in-None : goal.returns-in-None
returns-in-None g c =
    added_ownless (g.C.Conditions.wording c.args.conditions.now) (seen c.args.table.now) c.args.text.now c.first_line.result.0.now c.first_line.result.1.now c.in-Some.column c.first_line.ensures
    (rw c.in-Some.is at c.in_ok-column.ensures)
    (rw c.in-None.is at c.in_ok-constraints.ensures)
