use Rattle.std.proofs.Common.{refl}
use Rattle.hs_turns.proofs.Applied.{state-next, state-stays}
use Rattle.hs_turns.proofs.database_laws.states_follow_one_another.Goals as goal

pub returns : goal.returns
returns c = record { first = λ opening commits. refl; next = state-next; stays = state-stays }
