use Rattle.hs_syntax.proofs.OneReading.{one_reading}
use Rattle.hs_syntax.proofs.laws.law_of_one_reading.Goals as goal

pub returns : goal.returns
returns c = one_reading
