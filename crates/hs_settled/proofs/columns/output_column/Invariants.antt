use Rattle.std.proofs.Common.{◌≡◌, take}
use Rattle.hs_settled.specs.Columns.{column_of}
use Rattle.hs_settled.proofs.columns.output_column.Given as goal

abbrev pub invariant-loop-row : goal.invariant-loop-row
invariant-loop-row l = l.column.items ≡ column_of (take l.row-index l.row-items) l.at
