use Rattle.std.proofs.Common.{◌≡◌, take}
use Rattle.hs_writing.specs.Targets.{all_types}
use Rattle.hs_writing.proofs.targets.all_types.Given as goal

abbrev pub invariant-loop-column : goal.invariant-loop-column
invariant-loop-column l = l.types.items ≡ all_types (take l.column-index l.columns)
