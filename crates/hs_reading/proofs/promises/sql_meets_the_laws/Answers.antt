use Rattle.hs_reading.proofs.Meets.{meets}
use Rattle.hs_reading.proofs.promises.sql_meets_the_laws.Goals as goal

pub returns : goal.returns
returns c = meets
