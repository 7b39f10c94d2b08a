use Rattle.hs_rowtext.specs.Lines.{IsRowLine}
use Rattle.hs_committext.proofs.LineLemmas.{unended_line, first_found, first_missing}
use Rattle.hs_committext.proofs.RowLemmas.{row_feedless}
use Rattle.hs_committext.proofs.rows.read_row.Goals as goal

pub returns-in_default : goal.returns-in_default
returns-in_default c = unended_line (IsRowLine c.args.catalog.now) c.args.text.now c.in_default.ensures

pub returns-in-Ok-Some : goal.returns-in-Ok-Some
returns-in-Ok-Some c =
    first_found (IsRowLine c.args.catalog.now) (row_feedless c.args.catalog.now) c.args.text.now c.in-Some.line.now c.in-Some.rest.now c.in-Ok-Some.change c.in-Some.ensures.0 c.in-Some.ensures.1
    (rw c.in-Ok-Some.field-0-is at c.in-Ok-Some.ensures)

pub returns-in-Ok-None : goal.returns-in-Ok-None
returns-in-Ok-None c =
    first_missing (IsRowLine c.args.catalog.now) (row_feedless c.args.catalog.now) c.args.text.now c.in-Some.line.now c.in-Some.rest.now c.in-Some.ensures.0 c.in-Some.ensures.1
    (rw c.in-Ok-None.field-0-is at c.in-Ok-None.ensures)
