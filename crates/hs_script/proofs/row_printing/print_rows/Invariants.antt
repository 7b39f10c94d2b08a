-- What was printed, and what is left.
use Rattle.std.proofs.Common.{◌≡◌, ◌++◌, drop}
use Rattle.hs_script.specs.Rows.{seen, rows_text}
use Rattle.hs_script.proofs.row_printing.print_rows.Given as goal

abbrev pub invariant-loop-stored : goal.invariant-loop-stored
invariant-loop-stored l = l.out ++ rows_text (seen l.shelf) (drop l.stored-index l.rows) ≡ l.fn.out ++ rows_text (seen l.shelf) l.rows
