use Rattle.hs_statements.proofs.NoWant.{bound_there}
use Rattle.hs_statements.proofs.laws.what_is_meant_is_no_want_of_memory.Goals as goal

pub returns : goal.returns
returns c = bound_there
