use Rattle.std.proofs.Common.{refl}
use Rattle.hs_script.specs.Rows.{seen}
use Rattle.hs_script.proofs.RowLemmas.{line_known, line_unknown}
use Rattle.hs_script.proofs.row_reading.read_line.Goals as goal

pub returns-in-Ok-Some : goal.returns-in-Ok-Some
returns-in-Ok-Some c = line_known (seen c.args.shelf.now) c.args.line.now _ refl (rw c.in-Ok-Some.field-0-is at c.in-Ok-Some.ensures)

pub returns-in-Ok-None : goal.returns-in-Ok-None
returns-in-Ok-None c = line_unknown (seen c.args.shelf.now) c.args.line.now (rw c.in-Ok-None.field-0-is at c.in-Ok-None.ensures)
