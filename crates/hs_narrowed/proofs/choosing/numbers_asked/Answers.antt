use Rattle.hs_narrowed.proofs.Serving.{keyed_chosen}
use Rattle.hs_narrowed.proofs.choosing.numbers_asked.Goals as goal

pub returns-in_ok-rows_with-in-Some-2 : goal.returns-in_ok-rows_with-in-Some-2
returns-in_ok-rows_with-in-Some-2 g c = λ t verdict asks.
    let narrows = rw c.in-Some-2.is at c.in_ok-key.ensures in
    keyed_chosen verdict c.in-Some.columns.now c.in-Some-2.key (g.R.Rows.tables c.args.rows.now c.args.table.0) _ (narrows verdict asks) (c.in_ok-rows_with-in-Some-2.ensures t)
