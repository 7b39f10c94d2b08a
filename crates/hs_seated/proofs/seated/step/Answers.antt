use Rattle.std.proofs.Common.{◌∷◌, ◌++◌, [], List, Option, ap, ◌∙◌}
use Rattle.hs_values.specs.declared.value.Value.{Value}
use Rattle.hs_seated.specs.declared.step.Step.{Step}
use Rattle.hs_seated.proofs.seated.step.Goals as goal

-- the step with what a row was
abbrev its : Step → Option (List Value) → Step
its step old = record { table = step.table; row = step.row; old = old; inserted = step.inserted }

pub returns : goal.returns
returns c =
    let step : Step = record { table = c.args.table; row = c.args.row; old = c.in_ok-old.old; inserted = c.args.inserted } in
    record {
      rows = c.in_ok-set.ensures.rows;
      before = c.in_ok-set.ensures.before;
      touched = c.in_ok-set.ensures.touched;
      step = c.in_ok-push.ensures.items ∙ ap (λ (old : Option (List Value)). c.args.steps.now.items ++ its step old ∷ []) c.in_ok-old.ensures;
    }
