use Rattle.std.proofs.Common.{List, Result, Ok, map, subst, sym, ap}
use Rattle.hs_plan.specs.declared.change.Change.{Change}
use Rattle.hs_values.specs.declared.fault.EvalFault.{EvalFault}
use Rattle.hs_values.specs.Outcome.{◌>>=◌, Gives}
use Rattle.hs_actions.specs.Work.{Edits, change_of}
use Rattle.hs_dml.proofs.changes.with_those_of_actions.Goals as goal

pub returns-in-Err : goal.returns-in-Err
returns-in-Err g c = λ things evaluate answer some. ap (λ (r : Result Edits EvalFault). r >>= λ all. Ok (map change_of all)) (c.in-Err.ensures some)

pub returns-in-Ok : goal.returns-in-Ok
returns-in-Ok g c = λ things evaluate answer.
    subst (λ (means : Result (List Change) EvalFault). Gives c.told.result means)
    (sym (ap (λ (r : Result Edits EvalFault). r >>= λ all. Ok (map change_of all)) c.in-Ok.ensures))
    (c.told.ensures _ c.changes_of.ensures)
