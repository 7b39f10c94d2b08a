use Rattle.hs_values.specs.declared.value.Value.{Value}
use Rattle.hs_valuetext.specs.Values.{IsValueAt}
use Rattle.hs_valuetext.proofs.Bits.{alike_ok}
use Rattle.hs_rowtext.specs.Rows.{IsBehindComma}
use Rattle.hs_rowtext.proofs.RowLemmas.{comma_from, behind_from, no_comma}
use Rattle.hs_rowtext.proofs.rows.next_value.Goals as goal

pub returns-in-Some : goal.returns-in-Some
returns-in-Some c =
    alike_ok (λ (v : Value). v) (IsValueAt c.args.sql_type.now c.in-Some.inner.now) (IsBehindComma c.args.sql_type.now c.args.text.now)
    (comma_from c.args.sql_type.now c.args.text.now c.in-Some.inner.now c.in-Some.ensures)
    (behind_from c.args.sql_type.now c.args.text.now c.in-Some.inner.now c.in-Some.ensures)
    c.read_value.result c.read_value.ensures

pub returns-in-None : goal.returns-in-None
returns-in-None c = no_comma c.args.sql_type.now c.args.text.now c.in-None.ensures
