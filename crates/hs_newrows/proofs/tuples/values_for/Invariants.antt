use Rattle.std.proofs.Common.{◌≡◌, drop}
use Rattle.std.specs.Slice.Iter.{iter_rest}
use Rattle.hs_tentative.specs.NewRows.{values_for}
use Rattle.hs_newrows.proofs.Each.{behind}
use Rattle.hs_newrows.proofs.tuples.values_for.Given as goal

abbrev pub invariant-loop-place : goal.invariant-loop-place
invariant-loop-place g l =
    let evaluate = g.E.Evaluates.evaluate l.evaluator in
    behind l.made.items (values_for evaluate l.columns l.row (drop l.place-index l.places) (iter_rest l.given)) ≡ values_for evaluate l.columns l.row l.places l.tuple
