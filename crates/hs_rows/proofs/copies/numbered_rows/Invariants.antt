use Rattle.std.proofs.Common.{◌≡◌, map, take, None}
use Rattle.hs_rows.specs.Looks.{Looks}
use Rattle.hs_rows.specs.Numbers.{rows_numbered}
use Rattle.hs_rows.proofs.copies.numbered_rows.Given as goal

abbrev pub invariant-loop-number : goal.invariant-loop-number
invariant-loop-number g l =
    let rows = g.R.Rows in
    record {
      looks : Looks rows None l.fn.rows l.rows;
      copied : rows.tells l.fn.rows → l.copies ≡ rows_numbered (rows.tables l.fn.rows l.table.0) (map (λ r. r.0) (take l.number-index l.number-items));
    }
