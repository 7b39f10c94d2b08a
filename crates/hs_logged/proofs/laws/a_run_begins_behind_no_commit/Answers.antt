use Rattle.hs_logged.proofs.Worlds.{begun}
use Rattle.hs_logged.proofs.laws.a_run_begins_behind_no_commit.Goals as goal

pub returns : goal.returns
returns c = begun
