use Rattle.std.proofs.Common.{is_some, ap, ◌∙◌}
use Rattle.hs_drops.proofs.NamedTables.{behind_reference, there}
use Rattle.hs_drops.proofs.taken.is_table.Goals as goal

pub returns : goal.returns
returns c = c.is_some.ensures ∙ behind_reference c.table.result ∙ ap is_some c.table.ensures ∙ there c.args.catalog.now c.args.name.now
