use Rattle.hs_turns.proofs.Reached.{run_r}
use Rattle.hs_turns.proofs.laws.turns_are_events.Goals as goal

pub returns : goal.returns
returns c = run_r
