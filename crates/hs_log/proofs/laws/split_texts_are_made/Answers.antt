use Rattle.hs_log.proofs.CommitTexts.{made_text, made_lawful, split_never}
use Rattle.hs_log.proofs.laws.split_texts_are_made.Goals as goal

pub returns : goal.returns
returns c = record { text = made_text; lawful = made_lawful; none = split_never }
