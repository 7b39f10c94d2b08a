use Rattle.hs_columntext.proofs.ColumnLemmas.{named_found, named_missing}
use Rattle.hs_columntext.proofs.columns.read_named.Goals as goal

pub returns-in_ok-name-in-Ok-Some : goal.returns-in_ok-name-in-Ok-Some
returns-in_ok-name-in-Ok-Some c =
    named_found c.args.name.now c.args.text.now c.in-Ok-Some.rest.now (record { name = c.in_ok-name-in-Ok-Some.name; data_type = c.in-Ok-Some.typed.0; default = c.in-Ok-Some.typed.1 })
    (rw c.in-Ok-Some.field-0-is at c.in-Ok-Some.ensures)
    c.in_ok-name-in-Ok-Some.ensures

pub returns-in-Ok-None : goal.returns-in-Ok-None
returns-in-Ok-None c = named_missing c.args.name.now c.args.text.now (rw c.in-Ok-None.field-0-is at c.in-Ok-None.ensures)
