use Rattle.hs_resolve.proofs.over.uneven_values.Goals as goal

pub returns-clause-columns : goal.returns-clause-columns
returns-clause-columns c = c.uneven_values.ensures.columns c.args.catalog.now
