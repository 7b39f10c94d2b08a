use Rattle.hs_resolve.proofs.over.are_even.Goals as goal

pub returns : goal.returns
returns c = c.are_even.ensures c.args.catalog.now
