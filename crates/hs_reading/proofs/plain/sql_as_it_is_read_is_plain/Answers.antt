use Rattle.hs_reading.proofs.PlainSql.{sql_plain_as_read}
use Rattle.hs_reading.proofs.plain.sql_as_it_is_read_is_plain.Goals as goal

pub returns : goal.returns
returns c = sql_plain_as_read
