use Rattle.hs_valuetext.proofs.Splits.{nonempty_from}
use Rattle.hs_rowtext.proofs.LineLemmas.{last_more}
use Rattle.hs_rowtext.proofs.parts.read_last_number.Goals as goal

pub returns-else-is_empty : goal.returns-else-is_empty
returns-else-is_empty c =
    last_more c.args.text.now c.in_ok-number.rest.now c.in_ok-number.number c.in_ok-number.ensures
    (nonempty_from c.in_ok-number.rest.now c.is_empty.result c.is_empty.ensures c.if-is_empty.false)
