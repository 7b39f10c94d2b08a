use Rattle.std.proofs.Common.{◌≡◌, ◌-◌, ◌^◌, fold, None}
use Rattle.std.specs.FinMap.{values}
use Rattle.hs_rows.specs.Looks.{Looks}
use Rattle.hs_rows.specs.Numbers.{rows_from, start}
use Rattle.hs_rows.proofs.scanning.scan.Given as goal

abbrev pub invariant-loop-row : goal.invariant-loop-row
invariant-loop-row g l =
    let rows = g.R.Rows in
    let taken = g.T.Takes.taken in
    record {
      looks : Looks rows None l.fn.rows l.rows;
      left : rows.tells l.fn.rows → fold taken l.taker (rows_from (rows.tables l.fn.rows l.table.0) (start l.after)) ≡ fold taken l.fn.taker (values (rows.tables l.fn.rows l.table.0));
    }

abbrev pub decreases-loop-row : goal.decreases-loop-row
decreases-loop-row g l = 2 ^ 64 - start l.after
