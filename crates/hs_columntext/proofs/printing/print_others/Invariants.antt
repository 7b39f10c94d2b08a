use Rattle.std.proofs.Common.{◌≡◌, ◌++◌, drop}
use Rattle.hs_columntext.specs.Columns.{column_text}
use Rattle.hs_columntext.specs.Lists.{others_text}
use Rattle.hs_columntext.proofs.printing.print_others.Given as goal

abbrev pub invariant-loop-column : goal.invariant-loop-column
invariant-loop-column l = l.out ++ others_text column_text (drop l.column-index l.columns) ≡ l.fn.out ++ others_text column_text l.columns
