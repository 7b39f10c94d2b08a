use Rattle.hs_turns.proofs.Controlled.{controlled_alike}
use Rattle.hs_turns.proofs.promises.a_savepoint_is_of_its_transaction_alone.Goals as goal

pub returns : goal.returns
returns c = controlled_alike
