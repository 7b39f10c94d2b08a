use Rattle.std.proofs.Common.{◌≡◌, map, take, Some}
use Rattle.hs_tentative.specs.NewRows.{default_in}
use Rattle.hs_newrows.proofs.default_values.defaults.Given as goal

abbrev pub invariant-loop-column : goal.invariant-loop-column
invariant-loop-column l = l.row.items ≡ map (λ c. default_in (Some c)) (take l.column-index l.columns)
