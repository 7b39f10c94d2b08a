use Rattle.hs_validity.proofs.Moved.{moved}
use Rattle.hs_validity.proofs.laws.clear_transactions_are_valid_together.Goals as goal

pub returns : goal.returns
returns c = λ r db changes others feet other_feet stands fine others_fine room clear. moved db changes others feet other_feet stands fine others_fine room clear
