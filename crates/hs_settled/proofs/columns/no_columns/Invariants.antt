use Rattle.std.proofs.Common.{◌≡◌}
use Rattle.hs_settled.specs.Columns.{no_columns}
use Rattle.hs_settled.proofs.columns.no_columns.Given as goal

abbrev pub invariant-loop-row : goal.invariant-loop-row
invariant-loop-row l = l.rows.items ≡ no_columns l._row
