use Rattle.std.proofs.Common.{◌-◌, ◌^◌, None}
use Rattle.hs_rows.specs.Looks.{Looks}
use Rattle.hs_rows.specs.Numbers.{start}
use Rattle.hs_before.proofs.Read.{AreBelow}
use Rattle.hs_before.proofs.reading.table_rows.Given as goal

abbrev pub invariant-loop-row : goal.invariant-loop-row
invariant-loop-row g l =
    let rows = g.R.Rows in
    record {
      looks : Looks rows None l.fn.rows l.rows;
      read : rows.tells l.fn.rows → AreBelow (rows.tables l.fn.rows l.table.0) (start l.after) l.held;
    }

abbrev pub decreases-loop-row : goal.decreases-loop-row
decreases-loop-row g l = 2 ^ 64 - start l.after
