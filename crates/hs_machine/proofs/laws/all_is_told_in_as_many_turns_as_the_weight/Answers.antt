use Rattle.hs_machine.proofs.Machine.{all_told}
use Rattle.hs_machine.proofs.laws.all_is_told_in_as_many_turns_as_the_weight.Goals as goal

pub returns : goal.returns
returns g c = λ m s n law. all_told m law s n
