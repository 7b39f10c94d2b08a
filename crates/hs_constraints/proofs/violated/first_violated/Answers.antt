use Rattle.std.proofs.Common.{sym, ◌∙◌}
use Rattle.std.proofs.lemmas.Result.{IfOk-weaker}
use Rattle.hs_sentences.proofs.FirstViolated.{touched_rows_tell}
use Rattle.hs_constraints.proofs.violated.first_violated.Goals as goal

pub returns-clause-whole : goal.returns-clause-whole
returns-clause-whole g c = λ tells held.
    let changed = g.R.ChangedRows.changed c.args.rows.now in
    IfOk-weaker c.first_of.result _ _
    (λ first is. is ∙ sym (touched_rows_tell changed.checks changed.things changed.touched changed.before changed.after held.0 held.1))
    (c.first_of.ensures.answer tells)
