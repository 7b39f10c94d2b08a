use Rattle.hs_plan.specs.declared.change.Change.{Change}
use Rattle.hs_rowtext.specs.Lines.{IsBehind, IsRowLine}
use Rattle.hs_rowtext.proofs.LineLemmas.{known_ok, line_from, from_line, line_verbless, line_tableless}
use Rattle.hs_rowtext.proofs.lines.read_row_line.Goals as goal

pub returns-in_default : goal.returns-in_default
returns-in_default c = line_verbless c.args.catalog.now c.args.line.now c.in_default.ensures

pub returns-in-Ok-Some : goal.returns-in-Ok-Some
returns-in-Ok-Some c =
    let table = rw c.in-Ok-Some.field-0-is at c.in-Ok-Some.ensures in
    known_ok (λ (x : Change). x) (IsBehind c.in-Ok-Some.table.now c.in-Some.verb c.in-Ok-Some.rest.now) (IsRowLine c.args.catalog.now c.args.line.now)
    (line_from c.args.catalog.now c.args.line.now c.in-Some.verb c.in-Some.named.now c.in-Ok-Some.rest.now c.in-Ok-Some.table.now c.in-Some.ensures table)
    (from_line c.args.catalog.now c.args.line.now c.in-Some.verb c.in-Some.named.now c.in-Ok-Some.rest.now c.in-Ok-Some.table.now c.in-Some.ensures table)
    c.read_behind.result c.read_behind.ensures

pub returns-in-Ok-None : goal.returns-in-Ok-None
returns-in-Ok-None c = line_tableless c.args.catalog.now c.args.line.now c.in-Some.verb c.in-Some.named.now c.in-Some.ensures (rw c.in-Ok-None.field-0-is at c.in-Ok-None.ensures)
