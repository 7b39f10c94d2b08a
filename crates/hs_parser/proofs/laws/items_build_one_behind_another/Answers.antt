use Rattle.hs_parser.proofs.Composing.{composed}
use Rattle.hs_parser.proofs.laws.items_build_one_behind_another.Goals as goal

pub returns : goal.returns
returns c = composed
