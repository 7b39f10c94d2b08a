use Rattle.hs_answer_laws.proofs.Rows.{values_are}
use Rattle.hs_answer_laws.proofs.bodies.values_are_as_written.Goals as goal

pub returns : goal.returns
returns c = values_are
