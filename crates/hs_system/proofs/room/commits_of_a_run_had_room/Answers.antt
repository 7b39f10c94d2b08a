use Rattle.hs_system.proofs.Runs.{had_room}
use Rattle.hs_system.proofs.room.commits_of_a_run_had_room.Goals as goal

pub returns : goal.returns
returns c = had_room
