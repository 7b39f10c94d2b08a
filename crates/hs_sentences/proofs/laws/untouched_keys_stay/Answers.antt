use Rattle.hs_sentences.proofs.Said.{keys_stay}
use Rattle.hs_sentences.proofs.laws.untouched_keys_stay.Goals as goal

pub returns : goal.returns
returns c = keys_stay
