use Rattle.hs_resolve.proofs.over.one_item.Goals as goal

pub returns : goal.returns
returns c = c.one_item.ensures c.args.catalog.now
