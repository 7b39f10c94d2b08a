use Rattle.hs_plainwords.proofs.Turns.{one_told}
use Rattle.hs_plainwords.proofs.laws.turns_acknowledge_what_they_made.Goals as goal

pub returns : goal.returns
returns c = λ is_named d opening made items n t its opens called is. one_told is_named d its opening made opens items n t called is
