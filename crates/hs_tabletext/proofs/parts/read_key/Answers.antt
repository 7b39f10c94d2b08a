use Rattle.hs_valuetext.proofs.Splits.{empty_from, nonempty_from}
use Rattle.hs_tabletext.proofs.PartLemmas.{key_found, key_more, key_columnless}
use Rattle.hs_tabletext.proofs.parts.read_key.Goals as goal

pub returns-then-is_empty : goal.returns-then-is_empty
returns-then-is_empty c =
    key_found c.args.front.now c.args.columns.now c.args.text.now c.in-Some.inner.now c.in-Ok-Some.rest.now c.in-Ok-Some.places c.in-Some.ensures
    (rw c.in-Ok-Some.field-0-is at c.in-Ok-Some.ensures)
    (empty_from c.in-Ok-Some.rest.now c.is_empty.result c.is_empty.ensures c.if-is_empty.true)

pub returns-else-is_empty : goal.returns-else-is_empty
returns-else-is_empty c =
    key_more c.args.front.now c.args.columns.now c.args.text.now c.in-Some.inner.now c.in-Ok-Some.rest.now c.in-Ok-Some.places c.in-Some.ensures
    (rw c.in-Ok-Some.field-0-is at c.in-Ok-Some.ensures)
    (nonempty_from c.in-Ok-Some.rest.now c.is_empty.result c.is_empty.ensures c.if-is_empty.false)

pub returns-in-Ok-None : goal.returns-in-Ok-None
returns-in-Ok-None c =
    key_columnless c.args.front.now c.args.columns.now c.args.text.now c.in-Some.inner.now c.in-Some.ensures
    (rw c.in-Ok-None.field-0-is at c.in-Ok-None.ensures)
