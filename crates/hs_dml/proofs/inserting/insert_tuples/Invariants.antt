use Rattle.std.proofs.Common.{◌≡◌, List, fold, drop}
use Rattle.hs_plan.specs.declared.plan.NewValue.{NewValue}
use Rattle.hs_tentative.specs.NewRows.{inserted}
use Rattle.hs_dml.specs.declared.inserting.Inserting.{Inserting}
use Rattle.hs_dml.specs.Rows.{with_row}
use Rattle.hs_dml.proofs.inserting.insert_tuples.Given as goal

abbrev pub invariant-loop-tuple : goal.invariant-loop-tuple
invariant-loop-tuple g l =
    let one : Inserting → List NewValue → Inserting = λ so_far tuple. with_row l.table so_far (inserted (g.E.Evaluates.evaluate l.evaluator) l.columns l.places tuple) in
    fold one l.inserting (drop l.tuple-index l.tuples) ≡ fold one l.fn.inserting l.tuples
