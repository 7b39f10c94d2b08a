use Rattle.hs_effects.proofs.Violations.{first_same}
use Rattle.hs_effects.proofs.laws.the_first_violation_depends_on_the_tables_that_are_read.Goals as goal

pub returns : goal.returns
returns c = first_same
