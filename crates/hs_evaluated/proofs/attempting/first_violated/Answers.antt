use Rattle.std.proofs.Common.{◌≡◌, ◌++◌, None, List, [], sym, ap, subst, ◌∙◌}
use Rattle.std.proofs.lemmas.List.{append-nil}
use Rattle.hs_changes.specs.Changes.{count_all_inserted}
use Rattle.hs_turns.specs.Database.{view}
use Rattle.hs_language.specs.Outcomes.{violated_by}
use Rattle.hs_plan.specs.declared.change.Change.{Change}
use Rattle.hs_references.proofs.Collecting.{empty_from}
use Rattle.hs_seated.specs.Seated.{IsSeated}
use Rattle.hs_evaluated.proofs.Attempted.{none_violated}
use Rattle.hs_evaluated.proofs.attempting.first_violated.Goals as goal

pub returns-then-is_empty-clause-seated : goal.returns-then-is_empty-clause-seated
returns-then-is_empty-clause-seated c = λ maps behind is.
    let none : c.args.changes.now ≡ [] = empty_from c.args.changes.now c.is_empty.result c.is_empty.ensures c.if-is_empty.true in
    subst (λ (l : List Change). IsSeated maps l c.args.seated.now) (sym (ap (λ (l : List Change). behind ++ l) none ∙ append-nil behind)) is

pub returns-then-is_empty-clause-violated : goal.returns-then-is_empty-clause-violated
returns-then-is_empty-clause-violated c = λ db behind is same held.
    let none : c.args.changes.now ≡ [] = empty_from c.args.changes.now c.is_empty.result c.is_empty.ensures c.if-is_empty.true in
    none_violated (count_all_inserted behind) (view db behind) held ∙ ap (violated_by (count_all_inserted behind) (view db behind)) (sym none)
