use Rattle.std.proofs.lemmas.Result.{on_ok_weaker}
use Rattle.hs_tentative.specs.NewRows.{inserted}
use Rattle.hs_dml.proofs.inserting.insert_tuple.Goals as goal

pub returns : goal.returns
returns g c =
    on_ok_weaker c.take.result
    (λ is. is (inserted (g.E.Evaluates.evaluate c.args.evaluator.now) c.args.columns.now c.args.places.now c.args.tuple.now) c.inserted.ensures)
    c.take.ensures
