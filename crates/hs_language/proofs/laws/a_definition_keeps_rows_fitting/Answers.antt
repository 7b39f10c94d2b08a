use Rattle.hs_language.proofs.Accepted.{fitting_after}
use Rattle.hs_language.proofs.laws.a_definition_keeps_rows_fitting.Goals as goal

pub returns : goal.returns
returns c = fitting_after
