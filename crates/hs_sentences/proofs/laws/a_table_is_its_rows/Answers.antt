use Rattle.hs_sentences.proofs.Said.{any_row_is}
use Rattle.hs_sentences.proofs.laws.a_table_is_its_rows.Goals as goal

pub returns : goal.returns
returns c = any_row_is
