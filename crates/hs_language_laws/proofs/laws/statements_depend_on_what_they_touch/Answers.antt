use Rattle.hs_language_laws.proofs.Sql.{frame}
use Rattle.hs_language_laws.proofs.laws.statements_depend_on_what_they_touch.Goals as goal

pub returns : goal.returns
returns c = frame
