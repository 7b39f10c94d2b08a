use Rattle.hs_plainwords.proofs.Answered.{all_answered}
use Rattle.hs_plainwords.proofs.laws.each_item_is_answered_once.Goals as goal

pub returns : goal.returns
returns c = λ is_named d opening made items n its opens called. all_answered is_named d its opening made opens items n called
