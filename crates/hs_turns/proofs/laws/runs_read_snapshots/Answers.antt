use Rattle.hs_turns.proofs.Promised.{snapshots}
use Rattle.hs_turns.proofs.laws.runs_read_snapshots.Goals as goal

pub returns : goal.returns
returns c = λ d opening made items n laws stands. snapshots d opening made laws stands items n
