use Rattle.hs_reading.proofs.Bound.{proper_by}
use Rattle.hs_reading.proofs.proper.bound_definitions_are_proper.Goals as goal

pub returns : goal.returns
returns c = proper_by
