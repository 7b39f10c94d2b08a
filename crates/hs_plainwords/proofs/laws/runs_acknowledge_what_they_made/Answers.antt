use Rattle.hs_plainwords.proofs.Turns.{all_told}
use Rattle.hs_plainwords.proofs.laws.runs_acknowledge_what_they_made.Goals as goal

pub returns : goal.returns
returns c = λ is_named d opening made items n its opens called. all_told is_named d its opening made opens items n called
