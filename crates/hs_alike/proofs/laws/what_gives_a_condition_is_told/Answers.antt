use Rattle.hs_alike.proofs.Alike.{gives_told}
use Rattle.hs_alike.proofs.laws.what_gives_a_condition_is_told.Goals as goal

pub returns : goal.returns
returns c = gives_told
