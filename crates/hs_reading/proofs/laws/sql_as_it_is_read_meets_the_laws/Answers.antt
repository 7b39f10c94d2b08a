use Rattle.hs_reading.specs.Reading.{reading_of}
use Rattle.hs_reading.proofs.Readings.{is_bound, is_reading}
use Rattle.hs_reading.proofs.laws.sql_as_it_is_read_meets_the_laws.Goals as goal
use Rattle.hs_reading.proofs.Meets.{meets}

pub returns : goal.returns
returns c = λ room. meets (reading_of room) (is_bound (reading_of room) (is_reading room))
