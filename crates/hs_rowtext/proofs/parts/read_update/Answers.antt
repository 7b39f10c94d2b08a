use Rattle.hs_rowtext.proofs.LineLemmas.{update_from, update_none}
use Rattle.hs_rowtext.proofs.parts.read_update.Goals as goal

pub returns-in-Ok-Some : goal.returns-in-Ok-Some
returns-in-Ok-Some c = update_from c.args.table.now c.args.text.now c.in-Ok-Some.number c.in-Ok-Some.row (rw (c.in-Ok-Some.field-0-is, c.as_slice.ensures) at c.in-Ok-Some.ensures)

pub returns-in-Ok-None : goal.returns-in-Ok-None
returns-in-Ok-None c = update_none c.args.table.now c.args.text.now (rw (c.in-Ok-None.field-0-is, c.as_slice.ensures) at c.in-Ok-None.ensures)
