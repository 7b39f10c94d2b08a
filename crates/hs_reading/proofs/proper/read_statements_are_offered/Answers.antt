use Rattle.hs_reading.proofs.Offered.{offered}
use Rattle.hs_reading.proofs.proper.read_statements_are_offered.Goals as goal

pub returns : goal.returns
returns c = offered
