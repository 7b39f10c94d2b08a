use Rattle.hs_plainwords.proofs.Turns.{one_plain}
use Rattle.hs_plainwords.proofs.laws.turns_tell_plain_lines.Goals as goal

pub returns : goal.returns
returns c = λ is_named d opening made items n t its opens called is. one_plain is_named d its opening made opens items n t called is
