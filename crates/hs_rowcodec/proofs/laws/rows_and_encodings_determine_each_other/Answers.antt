use Rattle.hs_rowcodec.proofs.Rows.{one_row, one_encoding}
use Rattle.hs_rowcodec.proofs.laws.rows_and_encodings_determine_each_other.Goals as goal

pub returns-clause-one_row : goal.returns-clause-one_row
returns-clause-one_row c = one_row

pub returns-clause-one_encoding : goal.returns-clause-one_encoding
returns-clause-one_encoding c = one_encoding
