use Rattle.std.proofs.Common.{◌≡◌, List, fold, drop, Ok, Some}
use Rattle.hs_values.specs.declared.value.Value.{Value}
use Rattle.hs_values.specs.Outcome.{◌>>=◌}
use Rattle.hs_tentative.specs.NewRows.{updated}
use Rattle.hs_dml.specs.Rows.{Becoming, edited_at, edited_by}
use Rattle.hs_dml.proofs.updating.edit_all.Given as goal

abbrev pub invariant-loop-row : goal.invariant-loop-row
invariant-loop-row g l =
    let becomes : List Value → Becoming = λ old. updated (g.E.Evaluates.evaluate l.evaluator) l.columns l.update.assignments old >>= λ made. Ok (Some made) in
    let one = edited_at becomes l.update.table (g.B.RowsBefore.maps l.before l.update.table.0) in
    fold one (edited_by l.editing) (drop l.row-index l.rows) ≡ fold one (edited_by l.fn.editing) l.rows
