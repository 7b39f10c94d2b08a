use Rattle.std.specs.FinMap.{values}
use Rattle.hs_rows.proofs.AllCopied.{all_copied}
use Rattle.hs_rows.proofs.copies.all_rows.Goals as goal

pub returns-clause-rows : goal.returns-clause-rows
returns-clause-rows g c = λ t.
    all_copied (record { rows = c.new.result }) c.scan.new.taker (values (g.R.Rows.tables c.args.rows.now c.args.table.0)) c.new.ensures (c.in_ok-scan.ensures.ok t)
