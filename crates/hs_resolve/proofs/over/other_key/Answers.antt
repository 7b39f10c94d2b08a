use Rattle.hs_meaning.specs.Around.{seen}
use Rattle.hs_resolve.proofs.over.other_key.Goals as goal

pub returns : goal.returns
returns c = c.other_key.ensures c.args.catalog.now (seen c.args.around.now)
