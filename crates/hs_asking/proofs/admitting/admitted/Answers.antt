use Rattle.std.proofs.Common.{◌∙◌, sym, ap, subst, Result}
use Rattle.std.proofs.lemmas.Result.{IfOk-weaker}
use Rattle.hs_asking.specs.Asking.{IsAdmitted}
use Rattle.hs_language.specs.Sql.{refused_by}
use Rattle.hs_plan.specs.declared.plan.Plan.{Plan}
use Rattle.hs_schema.specs.Catalogue.{Text}
use Rattle.hs_asking.proofs.admitting.admitted.Goals as goal

pub returns-in-Ok : goal.returns-in-Ok
returns-in-Ok c = IfOk-weaker c.unless_refused.result _ _ (λ told is. subst (λ (m : Result Plan Text). IsAdmitted c.args.read_only m told) (sym c.in-Ok.is ∙ c.in_ok-answer.ensures) is) c.unless_refused.ensures

pub returns-in-Err : goal.returns-in-Err
returns-in-Err c = ap (refused_by c.args.read_only) (sym c.in_ok-answer.ensures ∙ c.in-Err.is)
