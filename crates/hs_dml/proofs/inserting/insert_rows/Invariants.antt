use Rattle.std.proofs.Common.{◌≡◌, List, fold, drop}
use Rattle.hs_values.specs.declared.value.Value.{Value}
use Rattle.hs_tentative.specs.NewRows.{taken_in}
use Rattle.hs_dml.specs.declared.inserting.Inserting.{Inserting}
use Rattle.hs_dml.specs.Rows.{with_row}
use Rattle.hs_dml.proofs.inserting.insert_rows.Given as goal

abbrev pub invariant-loop-row : goal.invariant-loop-row
invariant-loop-row l =
    let one : Inserting → List Value → Inserting = λ so_far row. with_row l.table so_far (taken_in l.columns l.places row) in
    fold one l.inserting (drop l.row-index l.rows) ≡ fold one l.fn.inserting l.rows
