use Rattle.hs_futures.proofs.Whole.{whole_made, whole_told}
use Rattle.hs_futures.proofs.laws.a_future_is_the_run_of_the_machine.Goals as goal

pub returns-clause-told : goal.returns-clause-told
returns-clause-told c = whole_told

pub returns-clause-made : goal.returns-clause-made
returns-clause-made c = whole_made
