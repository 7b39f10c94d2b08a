use Rattle.hs_index.proofs.Stored.{kept_empty}
use Rattle.hs_index.proofs.index.Index.new.Goals as goal

pub invariant_of-result : goal.invariant_of-result
invariant_of-result c = kept_empty c.new.result.entries c.new.ensures.empty
