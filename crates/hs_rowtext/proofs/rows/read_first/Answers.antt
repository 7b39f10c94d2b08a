use Rattle.hs_rowtext.specs.Rows.{types_of, Completes}
use Rattle.hs_rowtext.proofs.LineLemmas.{known_ok}
use Rattle.hs_rowtext.proofs.RowLemmas.{values_begun, values_ended, no_value}
use Rattle.hs_rowtext.proofs.rows.read_first.Goals as goal

pub returns-in-Ok : goal.returns-in-Ok
returns-in-Ok c =
    let first = rw c.in-Ok-Some.field-0-is at c.in-Ok-Some.ensures in
    known_ok (λ v. v.items) (Completes c.in-Ok.values.items (types_of c.args.others.now) c.in-Ok-Some.rest.now) _
    (values_ended c.args.first.now.data_type (types_of c.args.others.now) c.args.text.now c.in-Ok-Some.value c.in-Ok-Some.rest.now c.in-Ok.values.items first c.in-Ok.ensures)
    (values_begun c.args.first.now.data_type (types_of c.args.others.now) c.args.text.now c.in-Ok-Some.value c.in-Ok-Some.rest.now c.in-Ok.values.items first c.in-Ok.ensures)
    c.read_others.result c.read_others.ensures

pub returns-in-Ok-None : goal.returns-in-Ok-None
returns-in-Ok-None c = no_value c.args.first.now.data_type (types_of c.args.others.now) c.args.text.now (rw c.in-Ok-None.field-0-is at c.in-Ok-None.ensures)
