use Rattle.hs_rowcodec.proofs.Rows.{read_as, row_written}
use Rattle.hs_rowcodec.proofs.laws.the_row_that_is_read_is_the_encoded_one.Goals as goal

pub returns-clause-read : goal.returns-clause-read
returns-clause-read c = read_as

pub returns-clause-encoded : goal.returns-clause-encoded
returns-clause-encoded c = row_written
