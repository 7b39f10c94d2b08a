use Rattle.hs_keyed.proofs.Stored.{rows_put}
use Rattle.hs_keyed.proofs.entries.set_entry.Goals as goal

pub returns-in-Ok-clause-ok : goal.returns-in-Ok-clause-ok
returns-in-Ok-clause-ok c = rows_put c.args.rows.now.entries c.insert.new.self.entries c.args.row.0 c.args.values c.in-Ok.ensures.updates.0
