use Rattle.hs_futures.proofs.Whole.{whole_true}
use Rattle.hs_futures.proofs.laws.a_future_is_true.Goals as goal

pub returns : goal.returns
returns c = whole_true
