use Rattle.hs_copied.proofs.Answering.{copies_answer, copies_evaluate}
use Rattle.hs_copied.proofs.laws.copies_answer_as_the_tables.Goals as goal

pub returns : goal.returns
returns c = record { query = copies_answer; expression = copies_evaluate }
