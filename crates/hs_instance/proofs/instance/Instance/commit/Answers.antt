use Rattle.std.proofs.Common.{◌≡◌, [], List, OnOk, ap, ◌∙◌, subst}
use Rattle.std.specs.List.{list_any}
use Rattle.hs_turns.specs.Database.{apply, is_definition}
use Rattle.hs_turns.specs.Numbers.{numbered}
use Rattle.hs_plan.specs.declared.change.Change.{Change}
use Rattle.hs_seated.proofs.Counted.{numbered_kinds}
use Rattle.hs_instance.specs.Instance.{IsInstance}
use Rattle.hs_instance.proofs.instance.Instance.commit.Goals as goal

pub returns : goal.returns
returns c = λ db is.
    let own = c.args.changes.now in
    let made : c.as_slice.result.now ≡ numbered db.count own = c.as_slice.ensures ∙ c.in_ok-made.ensures ∙ ap (λ n. numbered n own) is.count in
    subst (λ (l : List Change). OnOk c.remake.result (IsInstance (apply db l) [] c.remake.new.self)) made
    (c.remake.ensures db own is (ap (list_any is_definition) made ∙ numbered_kinds db.count own ∙ is.rows.of_rows))
