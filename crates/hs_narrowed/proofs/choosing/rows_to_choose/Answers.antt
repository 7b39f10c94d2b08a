use Rattle.std.proofs.Common.{[], ap, sym, ◌∙◌}
use Rattle.std.specs.FinMap.{values}
use Rattle.std.proofs.lemmas.Result.{IfOk-weaker}
use Rattle.hs_answer.specs.Answer.{value_in}
use Rattle.hs_answer.specs.Places.{value_over}
use Rattle.hs_rel.specs.Selection.{selected}
use Rattle.hs_narrowed.proofs.Serving.{chooses_from, chooses_plain}
use Rattle.hs_narrowed.proofs.choosing.rows_to_choose.Goals as goal

pub returns-in-Ok-Some-clause-rows : goal.returns-in-Ok-Some-clause-rows
returns-in-Ok-Some-clause-rows g c = λ t tables.
    let verdict = value_over (value_in tables c.args.condition.now) [] in
    let kept = rw c.in-Ok-Some.field-0-is at (c.in-Ok-Some.ensures t) in
    chooses_from verdict (values (g.R.Rows.tables c.args.rows.now c.args.table.0)) c.numbered_rows.result c.numbered_rows.ensures.err
    (IfOk-weaker c.numbered_rows.result _ _ (λ copies is. ap (selected verdict) is ∙ kept verdict (c.in_ok-asked.ensures tables [])) (c.numbered_rows.ensures.rows t))

pub returns-then-is_plain-clause-rows : goal.returns-then-is_plain-clause-rows
returns-then-is_plain-clause-rows g c = λ t tables.
    chooses_plain tables c.args.condition.now (values (g.R.Rows.tables c.args.rows.now c.args.table.0)) c.true_rows.result
    (sym c.is_plain.ensures ∙ c.if-is_plain.true)
    (c.true_rows.ensures.rows t)
