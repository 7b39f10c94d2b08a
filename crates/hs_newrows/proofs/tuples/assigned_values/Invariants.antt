use Rattle.std.proofs.Common.{◌≡◌, map, drop}
use Rattle.hs_tentative.specs.NewRows.{values_for}
use Rattle.hs_newrows.proofs.Each.{behind}
use Rattle.hs_newrows.proofs.tuples.assigned_values.Given as goal

abbrev pub invariant-loop-assignment : goal.invariant-loop-assignment
invariant-loop-assignment g l =
    let evaluate = g.E.Evaluates.evaluate l.evaluator in
    let left = drop l.assignment-index l.assignments in
    behind l.made.items (values_for evaluate l.columns l.row (map (λ a. a.column) left) (map (λ a. a.value) left))
    ≡ values_for evaluate l.columns l.row (map (λ a. a.column) l.assignments) (map (λ a. a.value) l.assignments)
