use Rattle.hs_machine.proofs.Machine.{counted, tells}
use Rattle.hs_machine.proofs.laws.runs_acknowledge_what_they_made.Goals as goal

pub returns-clause-counts : goal.returns-clause-counts
returns-clause-counts g c = λ m s n law. counted m law n s

pub returns-clause-tells : goal.returns-clause-tells
returns-clause-tells g c = λ m is_sound s n law telling. tells m law is_sound telling n s
