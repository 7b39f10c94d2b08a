use Rattle.hs_keyed.proofs.Stored.{rows_taken}
use Rattle.hs_plainrows.proofs.held.remove_row.Goals as goal

pub returns : goal.returns
returns c = rows_taken c.args.rows.now.entries c.remove-old.new.self.entries c.args.row.0 c.remove-old.ensures.updates.0
