use Rattle.std.proofs.Common.{List, Result, subst, sym, ap, ◌∙◌}
use Rattle.hs_plan.specs.declared.change.Change.{Change}
use Rattle.hs_values.specs.declared.fault.EvalFault.{EvalFault}
use Rattle.hs_values.specs.Outcome.{◌>>=◌, Gives}
use Rattle.hs_acting.specs.Kept.{keys_in}
use Rattle.hs_actions.specs.Work.{Edits}
use Rattle.hs_tentative.specs.Statements.{with_those_of_actions}
use Rattle.hs_dml.specs.Told.{around_of}
use Rattle.hs_dml.proofs.Edits.{delete_apart}
use Rattle.hs_dml.proofs.deleting.of_delete.Goals as goal

pub returns-in-Err : goal.returns-in-Err
returns-in-Err g c = λ things answer.
    let keys = keys_in c.args.keys.now in
    let around = around_of things (g.E.Evaluates.evaluate c.args.evaluator.now) answer keys (g.B.RowsBefore.maps c.args.before.now) in
    (λ some. delete_apart around c.args.delete.now ∙ ap (λ (r : Result Edits EvalFault). r >>= with_those_of_actions around) (c.in-Err.ensures things answer keys some))

pub returns-in-Ok : goal.returns-in-Ok
returns-in-Ok g c = λ things answer.
    let keys = keys_in c.args.keys.now in
    let evaluate = g.E.Evaluates.evaluate c.args.evaluator.now in
    let around = around_of things evaluate answer keys (g.B.RowsBefore.maps c.args.before.now) in
    subst (λ (means : Result (List Change) EvalFault). Gives c.with_those_of_actions.result means)
    (sym (delete_apart around c.args.delete.now ∙ ap (λ (r : Result Edits EvalFault). r >>= with_those_of_actions around) (c.in-Ok.ensures things answer keys)))
    (c.with_those_of_actions.ensures things evaluate answer)
