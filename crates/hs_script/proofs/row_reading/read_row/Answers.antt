use Rattle.hs_script.specs.Rows.{seen, IsStoredLine}
use Rattle.hs_committext.proofs.LineLemmas.{unended_line, first_found, first_missing}
use Rattle.hs_script.proofs.RowLemmas.{stored_feedless}
use Rattle.hs_script.proofs.row_reading.read_row.Goals as goal

pub returns-in_default : goal.returns-in_default
returns-in_default c = unended_line (IsStoredLine (seen c.args.shelf.now)) c.args.text.now c.in_default.ensures

pub returns-in-Ok-Some : goal.returns-in-Ok-Some
returns-in-Ok-Some c =
    let shelf = seen c.args.shelf.now in
    first_found (IsStoredLine shelf) (stored_feedless shelf c.requires) c.args.text.now c.in-Some.line.now c.in-Some.rest.now c.in-Ok-Some.row c.in-Some.ensures.0 c.in-Some.ensures.1
    (rw c.in-Ok-Some.field-0-is at c.in-Ok-Some.ensures)

pub returns-in-Ok-None : goal.returns-in-Ok-None
returns-in-Ok-None c =
    let shelf = seen c.args.shelf.now in
    first_missing (IsStoredLine shelf) (stored_feedless shelf c.requires) c.args.text.now c.in-Some.line.now c.in-Some.rest.now c.in-Some.ensures.0 c.in-Some.ensures.1
    (rw c.in-Ok-None.field-0-is at c.in-Ok-None.ensures)
