use Rattle.std.proofs.Common.{◌≡◌, ◌++◌, drop}
use Rattle.hs_settled.specs.Columns.{with_column}
use Rattle.hs_settled.proofs.columns.add_column.Given as goal

abbrev pub invariant-loop-i : goal.invariant-loop-i
invariant-loop-i l = l.all.items ++ with_column (drop l.i l.slot-items) (drop l.i l.values.items) ≡ with_column l.fn.rows.items l.fn.column.items
