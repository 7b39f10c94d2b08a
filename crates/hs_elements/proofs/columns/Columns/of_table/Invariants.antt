use Rattle.std.proofs.Common.{◌≡◌, [], drop}
use Rattle.hs_elements.specs.Columns.{columns_of}
use Rattle.hs_elements.proofs.columns.Columns.of_table.Given as goal

abbrev pub invariant-loop-column : goal.invariant-loop-column
invariant-loop-column l = columns_of l.made (drop l.column-index l.columns) ≡ columns_of [] l.columns
