use Rattle.std.proofs.Common.{◌≡◌}
use Rattle.hs_meaning.specs.Selects.{columns_of, trees_of}
use Rattle.hs_columns.proofs.shown.part_shown.Given as goal

abbrev pub invariant-loop-one : goal.invariant-loop-one
invariant-loop-one l = record {
  columns : l.columns.items ≡ columns_of l.yielded;
  trees : l.trees ≡ trees_of l.yielded;
}
