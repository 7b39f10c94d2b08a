use Rattle.std.proofs.Common.{◌||◌, false, [], List, OnOk, ap, ◌∙◌, subst}
use Rattle.std.specs.List.{list_any}
use Rattle.hs_turns.specs.Database.{apply, is_definition}
use Rattle.hs_plan.specs.declared.change.Change.{Change}
use Rattle.hs_instance.specs.Instance.{IsInstance}
use Rattle.hs_instance.proofs.instance.Instance.make_row.Goals as goal

pub returns : goal.returns
returns c = λ db is one.
    subst (λ (l : List Change). OnOk c.remake.result (IsInstance (apply db l) [] c.remake.new.self)) c.from_ref.ensures.value
    (c.remake.ensures db [] is (ap (list_any is_definition) c.from_ref.ensures.value ∙ ap (λ b. b || false) one))
