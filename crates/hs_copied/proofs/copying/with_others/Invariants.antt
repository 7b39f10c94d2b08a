use Rattle.std.proofs.Common.{◌≡◌, ℕ, true, None, take}
use Rattle.hs_rows.specs.Looks.{Looks}
use Rattle.hs_copied.specs.Copies.{is_held, over}
use Rattle.hs_copied.proofs.Held.{AllHeld, Right}
use Rattle.hs_copied.proofs.copying.with_others.Given as goal

abbrev pub invariant-loop-table : goal.invariant-loop-table
invariant-loop-table g l =
    let rows = g.R.Rows in
    let first = l.fn.first.items in
    record {
      looks : Looks rows None l.fn.rows l.rows;
      first_held : (table : ℕ) → is_held first table ≡ true → is_held l.copies.items table ≡ true;
      right : rows.tells l.fn.rows → Right (over first (rows.tables l.fn.rows)) l.copies.items;
      held : AllHeld (take l.table-index l.table-items) l.copies.items;
    }
