use Rattle.std.proofs.Common.{sym, ◌∙◌}
use Rattle.hs_values.specs.declared.value.Value.{Value}
use Rattle.hs_valuetext.specs.Values.{IsTextAt, IsValueAt}
use Rattle.hs_valuetext.proofs.Bits.{alike_ok}
use Rattle.hs_valuetext.proofs.Splits.{nonempty_from}
use Rattle.hs_valuetext.proofs.ValueLemmas.{value_of_text, text_value, plain_found, plain_missing}
use Rattle.hs_valuetext.proofs.values.read_value.Goals as goal

pub returns-then-begins_text : goal.returns-then-begins_text
returns-then-begins_text c =
    alike_ok (λ (v : Value). v) (IsTextAt c.args.sql_type.now c.args.text.now) (IsValueAt c.args.sql_type.now c.args.text.now)
    (value_of_text c.args.sql_type.now c.args.text.now)
    (text_value c.args.sql_type.now c.args.text.now (sym c.begins_text.ensures ∙ c.if-begins_text.true))
    c.read_text.result c.read_text.ensures

pub returns-else-is_empty : goal.returns-else-is_empty
returns-else-is_empty c =
    plain_found c.args.sql_type.now c.args.text.now c.token.result.0.now c.token.result.1.now c.in-Some.value (sym c.begins_text.ensures ∙ c.if-begins_text.false) c.token.ensures
    (nonempty_from c.token.result.1.now c.is_empty.result c.is_empty.ensures c.if-is_empty.false)
    c.in-Some.ensures

pub returns-in-None : goal.returns-in-None
returns-in-None c =
    plain_missing c.args.sql_type.now c.args.text.now c.token.result.0.now c.token.result.1.now (sym c.begins_text.ensures ∙ c.if-begins_text.false) c.token.ensures c.in-None.ensures
