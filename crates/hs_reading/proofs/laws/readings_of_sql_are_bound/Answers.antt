use Rattle.hs_reading.proofs.Readings.{is_bound}
use Rattle.hs_reading.proofs.laws.readings_of_sql_are_bound.Goals as goal

pub returns : goal.returns
returns c = is_bound
