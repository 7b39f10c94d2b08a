use Rattle.hs_language.proofs.Holding.{hold_after}
use Rattle.hs_language.proofs.laws.every_constraint_holds_behind_a_definition.Goals as goal

pub returns : goal.returns
returns c = hold_after
