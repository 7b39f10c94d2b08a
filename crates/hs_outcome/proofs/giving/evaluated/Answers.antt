use Rattle.std.proofs.Common.{Option, Ok, sym, ap, subst, ◌∙◌}
use Rattle.hs_acting.specs.Kept.{keys_in}
use Rattle.hs_changes.specs.Settings.{Maps}
use Rattle.hs_exec.specs.Executed.{executed}
use Rattle.hs_references.specs.Referenced.{AreOf}
use Rattle.hs_rel.specs.declared.stop.StopKind.{StopKind}
use Rattle.hs_schema.specs.Catalogue.{Things}
use Rattle.hs_outcome.proofs.Alike.{fault_finish, rows_finish}
use Rattle.hs_outcome.proofs.giving.evaluated.Goals as goal

pub returns-in-Ok-Rows-clause-outcome : goal.returns-in-Ok-Rows-clause-outcome
returns-in-Ok-Rows-clause-outcome g c = λ tells same is are r inserted db things rows.
    let keys = keys_in c.args.keys.now in
    let plan = c.args.plan.now in
    rows_finish r inserted db keys (subst (λ (t : Things). AreOf t keys) (sym things) are) plan c.in-Ok-Rows.answer
    ((λ i. executed (rows i) (things i) keys plan)
    ∙ c.in_ok-answer.ensures.answer (executed (g.R.Rows.tables c.args.rows.now) c.args.cat.now keys plan) (c.execute_with.ensures.answer tells same)
    ∙ c.in-Ok-Rows.is ∙ ap Ok c.in-Ok-Rows.field-0-is)
    is

pub returns-in-Ok-Changes-clause-outcome : goal.returns-in-Ok-Changes-clause-outcome
returns-in-Ok-Changes-clause-outcome g c = λ tells same is are r inserted db things rows.
    let keys = keys_in c.args.keys.now in
    let plan = c.args.plan.now in
    let looks = c.execute_with.ensures.looks in
    let looked = subst (λ (stop : Option StopKind). g.R.Rows.looked stop c.args.rows.now c.execute_with.new.rows) (sym c.in_ok-answer.ensures.stop) looks.looked in
    c.counted.ensures.outcome (g.met.R.Rows.tells_on c.args.rows.now c.execute_with.new.rows looked tells)
    (same ∙ sym looks.tables)
    (ap (λ (tables : Maps). executed tables c.args.cat.now keys plan) looks.tables
    ∙ c.in_ok-answer.ensures.answer (executed (g.R.Rows.tables c.args.rows.now) c.args.cat.now keys plan) (c.execute_with.ensures.answer tells same)
    ∙ c.in-Ok-Changes.is ∙ ap Ok c.in-Ok-Changes.field-0-is)
    is are r inserted db things (rows ∙ sym looks.tables)

pub returns-in-Err-clause-outcome : goal.returns-in-Err-clause-outcome
returns-in-Err-clause-outcome g c = λ tells same is are r inserted db things rows.
    let keys = keys_in c.args.keys.now in
    let plan = c.args.plan.now in
    fault_finish r inserted db keys (subst (λ (t : Things). AreOf t keys) (sym things) are) plan c.in-Err.fault
    ((λ i. executed (rows i) (things i) keys plan)
    ∙ c.in_ok-answer.ensures.answer (executed (g.R.Rows.tables c.args.rows.now) c.args.cat.now keys plan) (c.execute_with.ensures.answer tells same)
    ∙ c.in-Err.is)
    is
