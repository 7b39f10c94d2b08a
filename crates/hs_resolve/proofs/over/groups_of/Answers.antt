use Rattle.hs_resolve.proofs.over.groups_of.Goals as goal

pub returns : goal.returns
returns c = c.groups_of.ensures c.args.catalog.now
