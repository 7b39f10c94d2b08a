use Rattle.std.proofs.Common.{◌≡◌, ◌++◌, drop}
use Rattle.hs_typed.specs.Faults.{noted}
use Rattle.hs_outlines.specs.Columns.{columns_faults, columns_written, definitions, names_after}
use Rattle.hs_outlines.proofs.columns.AllColumns.add_all.Given as goal

abbrev pub invariant-loop-element : goal.invariant-loop-element
invariant-loop-element l = record {
  columns : l.self.columns ++ columns_written (drop l.element-index l.all) ≡ l.fn.self.columns ++ columns_written l.all;
  names : names_after l.self.names (definitions (drop l.element-index l.all)) ≡ names_after l.fn.self.names (definitions l.all);
  noted : noted l.faults (columns_faults l.self.names (definitions (drop l.element-index l.all))) ≡ noted l.fn.faults (columns_faults l.fn.self.names (definitions l.all));
}
