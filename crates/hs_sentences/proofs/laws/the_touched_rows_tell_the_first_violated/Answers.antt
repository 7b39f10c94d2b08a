use Rattle.hs_sentences.proofs.FirstViolated.{touched_rows_tell}
use Rattle.hs_sentences.proofs.laws.the_touched_rows_tell_the_first_violated.Goals as goal

pub returns : goal.returns
returns c = touched_rows_tell
