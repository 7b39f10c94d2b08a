use Rattle.std.proofs.Common.{List}
use Rattle.hs_plan.specs.declared.definition.Column.{Column}
use Rattle.hs_valuetext.proofs.Bits.{alike_ok}
use Rattle.hs_columntext.specs.Columns.{column_text, IsColumn}
use Rattle.hs_columntext.specs.Lists.{AreSome, Completes}
use Rattle.hs_columntext.proofs.ListLemmas.{some_from, from_some, some_missing}
use Rattle.hs_columntext.proofs.columns.read_some.Goals as goal

pub returns-in_ok-columns-in-Ok-Some : goal.returns-in_ok-columns-in-Ok-Some
returns-in_ok-columns-in-Ok-Some c =
    let first = rw c.in-Ok-Some.field-0-is at c.in-Ok-Some.ensures in
    alike_ok (λ (x : List Column). x) (Completes IsColumn column_text c.in_ok-columns-in-Ok-Some.columns c.in-Ok-Some.rest.now) (AreSome IsColumn column_text c.args.text.now)
    (some_from IsColumn column_text c.args.text.now c.in-Ok-Some.rest.now c.in-Ok-Some.column c.in_ok-columns-in-Ok-Some.columns first c.in_ok-columns-in-Ok-Some.ensures)
    (from_some IsColumn column_text c.args.text.now c.in-Ok-Some.rest.now c.in-Ok-Some.column c.in_ok-columns-in-Ok-Some.columns first c.in_ok-columns-in-Ok-Some.ensures)
    c.read_others.result c.read_others.ensures

pub returns-in-Ok-None : goal.returns-in-Ok-None
returns-in-Ok-None c = some_missing IsColumn column_text c.args.text.now (rw c.in-Ok-None.field-0-is at c.in-Ok-None.ensures)
