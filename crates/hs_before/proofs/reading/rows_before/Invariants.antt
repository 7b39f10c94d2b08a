use Rattle.std.proofs.Common.{None, take}
use Rattle.hs_rows.specs.Looks.{Looks}
use Rattle.hs_before.proofs.Read.{AreHeld}
use Rattle.hs_before.proofs.reading.rows_before.Given as goal

abbrev pub invariant-loop-table : goal.invariant-loop-table
invariant-loop-table g l =
    let rows = g.R.Rows in
    record {
      looks : Looks rows None l.fn.rows l.rows;
      held : rows.tells l.fn.rows → AreHeld (rows.tables l.fn.rows) (take l.table-index l.table-items) l.read.items;
    }
