use Rattle.std.proofs.Common.{List, fold, ap, ◌∙◌}
use Rattle.hs_values.specs.declared.value.Value.{Value}
use Rattle.hs_tentative.specs.NewRows.{taken_in}
use Rattle.hs_dml.specs.declared.inserting.Inserting.{Inserting}
use Rattle.hs_dml.specs.Rows.{with_row}
use Rattle.hs_dml.proofs.Inserts.{inserted_told}
use Rattle.hs_dml.proofs.inserting.of_rows.Goals as goal

pub returns : goal.returns
returns c =
    let table = c.args.table in
    let made = taken_in c.args.columns.now c.args.places.now in
    let one : Inserting → List Value → Inserting = λ so_far row. with_row table so_far (made row) in
    inserted_told table made c.args.rows.now c.insert_rows.new.inserting (c.in_ok-insert_rows.ensures ∙ ap (λ (begun : Inserting). fold one begun c.args.rows.now) c.new-inserting.ensures)
