use Rattle.hs_requests.proofs.Told.{requested}
use Rattle.hs_requests.proofs.laws.requests_are_told_by_texts.Goals as goal

pub returns : goal.returns
returns c = requested
