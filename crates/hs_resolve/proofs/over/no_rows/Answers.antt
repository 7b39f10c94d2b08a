use Rattle.hs_resolve.proofs.over.no_rows.Goals as goal

pub returns-clause-columns : goal.returns-clause-columns
returns-clause-columns c = c.no_rows.ensures.columns c.args.catalog.now
