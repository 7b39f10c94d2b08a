use Rattle.hs_parser.proofs.Sentences.{none_missing}
use Rattle.hs_parser.proofs.laws.no_part_is_missing.Goals as goal

pub returns : goal.returns
returns c = none_missing
