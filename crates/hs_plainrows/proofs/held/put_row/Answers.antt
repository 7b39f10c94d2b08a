use Rattle.hs_keyed.proofs.Stored.{rows_put}
use Rattle.hs_plainrows.proofs.held.put_row.Goals as goal

pub returns-clause-ok : goal.returns-clause-ok
returns-clause-ok c = rows_put c.args.rows.now.entries c.insert.new.self.entries c.args.row.0 c.args.values c.in_ok-insert.ensures.updates.0
