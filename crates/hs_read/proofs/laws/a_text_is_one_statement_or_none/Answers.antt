use Rattle.hs_read.proofs.Only.{only}
use Rattle.hs_read.proofs.Reading.{is_read}
use Rattle.hs_read.proofs.laws.a_text_is_one_statement_or_none.Goals as goal

pub returns-clause-read : goal.returns-clause-read
returns-clause-read c = is_read

pub returns-clause-only : goal.returns-clause-only
returns-clause-only c = only
