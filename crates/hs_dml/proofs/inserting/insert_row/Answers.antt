use Rattle.std.proofs.lemmas.Result.{on_ok_weaker}
use Rattle.hs_tentative.specs.NewRows.{taken_in}
use Rattle.hs_dml.proofs.inserting.insert_row.Goals as goal

pub returns : goal.returns
returns c =
    on_ok_weaker c.take.result
    (λ is. is (taken_in c.args.columns.now c.args.places.now c.args.row.now) c.taken_in.ensures)
    c.take.ensures
