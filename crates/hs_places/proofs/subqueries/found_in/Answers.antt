use Rattle.std.proofs.Common.{◌≡◌, ◌+◌, true, false, None, Ok, drop, sym, ap, ◌∙◌}
use Rattle.std.specs.Prelude.{slice_get}
use Rattle.hs_values.specs.Order.{seen}
use Rattle.hs_expression.specs.Logic.{disjunction, is_true}
use Rattle.hs_expression.specs.Operators.{equal_test}
use Rattle.hs_expression.specs.Forms.{found_in, values_of}
use Rattle.hs_expression.specs.Surroundings.{or_null}
use Rattle.hs_places.proofs.Answered.{step_found, step_on}
use Rattle.hs_places.proofs.Lists.{item}
use Rattle.hs_places.proofs.subqueries.found_in.Goals as goal

pub returns-then-is_true : goal.returns-then-is_true
returns-then-is_true c =
    let rows = c.args.rows.now in
    let i = c.loop-row.row-index in
    let x = seen c.args.x in
    let next = item rows i c.row-item.result c.loop-row-test.true c.row-item.is in
    let is : equal_test None x (or_null (slice_get c.row-item.result 0)) ≡ Ok c.in_ok-equal.equal = sym (c.in_ok-equal.ensures ∙ ap (equal_test None x) c.field.ensures) in
    let met : is_true c.in_ok-equal.equal ≡ true = sym (sym c.if-is_true.true ∙ c.is_true.ensures ∙ ap is_true c.as_value_ref.ensures) in
    sym (c.loop-row.invariant
    ∙ ap (λ l. found_in x c.loop-row.so_far (values_of l)) next
    ∙ step_found x c.loop-row.so_far c.in_ok-equal.equal c.row-item.result (drop (i + 1) rows) is met)

pub loop-row-preserved : goal.loop-row-preserved
loop-row-preserved c =
    let rows = c.args.rows.now in
    let i = c.loop-row.row-index in
    let x = seen c.args.x in
    let next = item rows i c.row-item.result c.loop-row-test.true c.row-item.is in
    let is : equal_test None x (or_null (slice_get c.row-item.result 0)) ≡ Ok c.in_ok-equal.equal = sym (c.in_ok-equal.ensures ∙ ap (equal_test None x) c.field.ensures) in
    let not_met : is_true c.in_ok-equal.equal ≡ false = sym (sym c.if-is_true.false ∙ c.is_true.ensures ∙ ap is_true c.as_value_ref.ensures) in
    let joined : c.disjunction-so_far.result ≡ disjunction c.loop-row.so_far c.in_ok-equal.equal = c.disjunction-so_far.ensures ∙ (λ j. disjunction (c.as_value_ref-in-loop-row.ensures j) (c.as_value_ref-in-loop-row-2.ensures j)) in
    c.loop-row.invariant
    ∙ ap (λ l. found_in x c.loop-row.so_far (values_of l)) next
    ∙ step_on x c.loop-row.so_far c.in_ok-equal.equal c.row-item.result (drop (i + 1) rows) is not_met
    ∙ ap (λ z. found_in x z (values_of (drop (i + 1) rows))) (sym joined)
