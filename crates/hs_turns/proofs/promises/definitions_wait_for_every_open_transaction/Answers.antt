use Rattle.std.proofs.Common.{refl}
use Rattle.hs_turns.proofs.promises.definitions_wait_for_every_open_transaction.Goals as goal

pub returns : goal.returns
returns c = λ kind level read_only feet. refl
