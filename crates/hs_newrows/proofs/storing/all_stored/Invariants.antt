use Rattle.std.proofs.Common.{◌≡◌, drop}
use Rattle.std.specs.Slice.Iter.{iter_rest}
use Rattle.hs_tentative.specs.NewRows.{all_stored}
use Rattle.hs_newrows.proofs.Each.{behind}
use Rattle.hs_newrows.proofs.storing.all_stored.Given as goal

abbrev pub invariant-loop-place : goal.invariant-loop-place
invariant-loop-place l = behind l.row.items (all_stored l.columns (drop l.place-index l.places) (iter_rest l.given)) ≡ all_stored l.columns l.places l.values
