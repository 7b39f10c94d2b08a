use Rattle.hs_log.proofs.CommitTexts.{split_back, split_once}
use Rattle.hs_log.proofs.laws.commit_texts_are_split.Goals as goal

pub returns : goal.returns
returns c = record { split = split_back; only = split_once }
