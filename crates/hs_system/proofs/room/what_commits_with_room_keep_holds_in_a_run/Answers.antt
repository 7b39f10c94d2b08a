use Rattle.std.specs.Prelude.{◌≡◌, true, List}
use Rattle.hs_turns.specs.Histories.{Commit}
use Rattle.hs_turns.specs.Machine.{start}
use Rattle.hs_system.proofs.Runs.{run_keeps}
use Rattle.hs_system.proofs.room.what_commits_with_room_keep_holds_in_a_run.Goals as goal

pub returns : goal.returns
returns c = λ d opening made items n holds none more. run_keeps d opening made (λ (ks : List Commit). holds ks ≡ true) more n (start opening items) none
