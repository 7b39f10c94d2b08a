use Rattle.hs_reading.proofs.Worlds.{worlds}
use Rattle.hs_reading.proofs.runs.sql_runs_are_worlds.Goals as goal

pub returns : goal.returns
returns c = worlds
