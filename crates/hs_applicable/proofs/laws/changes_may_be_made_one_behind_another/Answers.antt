use Rattle.hs_applicable.proofs.Behind.{behind}
use Rattle.hs_applicable.proofs.laws.changes_may_be_made_one_behind_another.Goals as goal

pub returns : goal.returns
returns c = behind
