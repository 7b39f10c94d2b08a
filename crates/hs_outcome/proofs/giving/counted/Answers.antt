use Rattle.std.proofs.Common.{sym, subst, ◌∙◌}
use Rattle.hs_acting.specs.Kept.{keys_in}
use Rattle.hs_dml.specs.Told.{columns_in}
use Rattle.hs_effects.specs.Effects.{around_in}
use Rattle.hs_exec.specs.Executed.{executed}
use Rattle.hs_language.specs.Outcomes.{own_count}
use Rattle.hs_references.specs.Referenced.{AreOf}
use Rattle.hs_schema.specs.Catalogue.{Things}
use Rattle.hs_outcome.proofs.Alike.{changes_finish, made_by}
use Rattle.hs_outcome.proofs.giving.counted.Goals as goal

pub returns-clause-outcome : goal.returns-clause-outcome
returns-clause-outcome g c = λ tells same made is are r inserted db things rows.
    let keys = keys_in c.args.keys.now in
    let plan = c.args.plan.now in
    changes_finish r inserted db keys (subst (λ (t : Things). AreOf t keys) (sym things) are) plan c.args.changes c.in_ok-count.count
    ((λ i. executed (rows i) (things i) keys plan) ∙ made)
    (c.in_ok-count.ensures.count tells same (made_by (g.R.Rows.tables c.args.rows.now) c.args.cat.now keys plan c.args.changes made)
    ∙ (λ i. own_count (around_in (sym rows i) (columns_in (sym things i)) keys) plan c.args.changes))
    is
