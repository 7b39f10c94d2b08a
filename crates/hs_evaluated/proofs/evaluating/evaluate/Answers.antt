use Rattle.std.proofs.Common.{◌≡◌, ◌++◌, List, [], if◌then◌else◌, sym, ap, subst, ◌∙◌}
use Rattle.hs_changes.specs.Changes.{count_all_inserted}
use Rattle.hs_turns.specs.Database.{view}
use Rattle.hs_language.specs.Outcomes.{violated_by}
use Rattle.hs_outcome.specs.Given.{finished}
use Rattle.hs_plan.specs.declared.change.Change.{Change}
use Rattle.hs_seated.specs.Seated.{IsSeated}
use Rattle.hs_evaluated.proofs.evaluating.evaluate.Goals as goal

pub returns : goal.returns
returns c = λ r tells lists are db behind is same held.
    let seen = view db behind in
    let plan = c.args.plan.now in
    let gave = c.in_ok-given.ensures are r (count_all_inserted behind) seen same (λ i t. sym (is.rows.draft t) i) in
    let touched = c.in_ok-foot.ensures r tells lists seen same (λ i t. sym (is.rows.draft t) i) in
    let first = c.in_ok-violation.ensures.violated db behind is same held ∙ ap (violated_by (count_all_inserted behind) seen) c.changes_of.ensures in
    let on = c.in_ok-violation.ensures.seated db.rows behind is in
    let left = c.in_ok-keep.ensures db.rows behind c.changes_of.result.now (c.len-before.ensures db.rows behind is) on in
    let told = c.in_ok-told.ensures.outcome c.is_kept-kept.ensures r seen plan touched in
    record {
      outcome = told ∙ (λ i. finished (first i) (sym same i) c.in_ok-given.given (touched i)) ∙ sym gave;
      seated = subst (λ (l : List Change). IsSeated db.rows (behind ++ l) c.keep.new.seated)
          (ap (λ (l : List Change). if c.is_kept-kept.result then l else []) c.changes_of.ensures ∙ sym c.in_ok-told.ensures.changes) left;
    }
