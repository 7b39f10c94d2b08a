use Rattle.std.proofs.Common.{◌++◌}
use Rattle.hs_script.specs.Rows.{seen, rows_text}
use Rattle.hs_script.proofs.RowLemmas.{printed_more}
use Rattle.hs_script.proofs.row_printing.print_rows.Goals as goal

pub loop-stored-preserved : goal.loop-stored-preserved
loop-stored-preserved c =
    printed_more (seen c.args.shelf.now) c.args.rows.now c.loop-stored.stored-index c.stored-item.result c.loop-stored.out c.print_stored.new.out (c.args.out.now ++ rows_text (seen c.args.shelf.now) c.args.rows.now)
    c.loop-stored-test.true c.stored-item.is c.loop-stored.invariant c.in_ok-print_stored.ensures
