use Rattle.std.proofs.Common.{◌≡◌, map, take}
use Rattle.hs_tentative.specs.NewRows.{default_of}
use Rattle.hs_references.proofs.columns.defaults_of.Given as goal

abbrev pub invariant-loop-place : goal.invariant-loop-place
invariant-loop-place l = l.values.items ≡ map (default_of l.columns) (take l.place-index l.places)
