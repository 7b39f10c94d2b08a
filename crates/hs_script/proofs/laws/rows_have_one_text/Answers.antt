use Rattle.hs_script.proofs.RowLemmas.{their_text}
use Rattle.hs_script.proofs.laws.rows_have_one_text.Goals as goal

pub returns : goal.returns
returns c = λ shelf most text rows h. their_text shelf text rows h.lines
