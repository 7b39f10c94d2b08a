use Rattle.hs_sentences.proofs.Said.{unique_is, foreign_is}
use Rattle.hs_sentences.proofs.laws.sentences_say_what_constraints_ask.Goals as goal

pub returns : goal.returns
returns c = record { unique = unique_is; foreign = foreign_is }
