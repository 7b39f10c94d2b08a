use Rattle.hs_machine.proofs.Acknowledged.{row_no_ok, row_no_refusal}
use Rattle.hs_machine.proofs.laws.rows_are_no_replies.Goals as goal

pub returns-clause-done : goal.returns-clause-done
returns-clause-done c = row_no_ok

pub returns-clause-refused : goal.returns-clause-refused
returns-clause-refused c = row_no_refusal
