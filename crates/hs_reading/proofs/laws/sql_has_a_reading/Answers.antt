use Rattle.hs_reading.proofs.Readings.{is_reading}
use Rattle.hs_reading.proofs.laws.sql_has_a_reading.Goals as goal

pub returns : goal.returns
returns c = is_reading
