use Rattle.std.proofs.Common.{List, Result, Ok, subst, sym, ap, ◌∙◌}
use Rattle.hs_plan.specs.declared.change.Change.{Change}
use Rattle.hs_values.specs.declared.fault.EvalFault.{EvalFault}
use Rattle.hs_values.specs.declared.value.Value.{Value}
use Rattle.hs_values.specs.Outcome.{Gives}
use Rattle.hs_dml.specs.Rows.{inserts, taken}
use Rattle.hs_dml.proofs.inserting.of_query.Goals as goal

pub returns-in-Ok : goal.returns-in-Ok
returns-in-Ok g c =
    let table = c.args.table in
    let columns = c.args.columns.now in
    let places = c.args.places.now in
    subst (λ (means : Result (List Change) EvalFault). Gives c.ended.result means)
    ((λ i. inserts table (taken columns places (Ok (c.as_slice.ensures i))))
    ∙ sym (ap (λ (r : Result (List (List Value)) EvalFault). inserts table (taken columns places r)) c.in-Ok.ensures))
    (c.ended.ensures _ c.of_rows.ensures)

pub returns-in-Err : goal.returns-in-Err
returns-in-Err g c = λ some. ap (λ (r : Result (List (List Value)) EvalFault). inserts c.args.table (taken c.args.columns.now c.args.places.now r)) (c.in-Err.ensures some)
