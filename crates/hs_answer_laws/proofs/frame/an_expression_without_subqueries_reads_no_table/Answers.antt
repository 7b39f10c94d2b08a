use Rattle.hs_answer_laws.proofs.Plain.{alone_at}
use Rattle.hs_answer_laws.proofs.frame.an_expression_without_subqueries_reads_no_table.Goals as goal

pub returns : goal.returns
returns c = record { value = alone_at }
