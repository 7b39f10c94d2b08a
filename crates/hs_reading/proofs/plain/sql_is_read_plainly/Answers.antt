use Rattle.hs_reading.proofs.PlainReading.{reads_plainly}
use Rattle.hs_reading.proofs.plain.sql_is_read_plainly.Goals as goal

pub returns : goal.returns
returns c = reads_plainly
